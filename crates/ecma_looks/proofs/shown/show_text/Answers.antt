use Rattle.ecma_looks.proofs.shown.show_text.Goals as goal

pub classes-requires-clause-tokens : goal.classes-requires-clause-tokens
classes-requires-clause-tokens c = c.requires.covered.tokens_stand

pub classes-requires-clause-comments : goal.classes-requires-clause-comments
classes-requires-clause-comments c = c.requires.covered.comments_stand
