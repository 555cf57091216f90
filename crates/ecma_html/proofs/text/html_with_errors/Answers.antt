use Rattle.ecma_html.proofs.text.html_with_errors.Goals as goal

pub classes-requires-clause-tokens : goal.classes-requires-clause-tokens
classes-requires-clause-tokens c = rw c.as_slice-kept.ensures.value c.requires.covered.tokens_stand

pub classes-requires-clause-comments : goal.classes-requires-clause-comments
classes-requires-clause-comments c = rw c.as_slice-comments.ensures.value c.requires.covered.comments_stand
