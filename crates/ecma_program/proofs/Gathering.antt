-- A text is read to its end, and its comments are handed over.
use Rattle.std.proofs.Common.{◌≡◌, ◌∙◌, ℕ, suc, true, false, not, ◌&&◌, List, [], ◌∷◌, ◌++◌, Option, Some, None, map, refl, sym, ap, subst}
use Rattle.std.specs.Prelude.{is_some}
use Rattle.ecma_place.specs.Comment.{Added, Side}
use Rattle.ecma_place.specs.Comment as place
use Rattle.ecma_token.specs.View.{SpannedView}
use Rattle.ecma_state.specs.Ending.{comments_of}
use Rattle.ecma_state.specs.HandOver.{HandsAll, added_of, has_comments, side_of}
use Rattle.ecma_state.specs.Run.{reading_of, state_behind}
use Rattle.ecma_state.specs.Session.{LexerState, Session, kept_in, state_of}
use Rattle.ecma_state.specs.State.{seen_behind}
use Rattle.ecma_comments.specs.declared.comments_buffer.BufferedComment.{BufferedComment}
use Rattle.ecma_comments.specs.declared.comments_buffer.BufferedCommentKind.{BufferedCommentKind}
use Rattle.ecma_comments.specs.declared.comments_buffer.BufferedCommentKind.TheVariants.{Leading, Trailing}
use Rattle.ecma_reads.proofs.EndingLemmas.{ReadSoFar, so_far-end, so_far-start, so_far-token}

-- Reading to the end

-- so many reads, which all gave a token, from each session where the lexer may have begun
pub record PassedSoFar (begun l : LexerState) : Type 0 where
  pub passed : (s : Session) → state_of s ≡ begun → (k : ℕ) × ReadSoFar s k l
  pub plain : l.reread ≡ None

pub passed-start : (begun : LexerState) → begun.reread ≡ None → PassedSoFar begun begun
passed-start begun plain =
    record { passed = λ s at. (0, subst (ReadSoFar s 0) at (so_far-start s (ap (λ l. l.reread) at ∙ plain))); plain = plain }

pub passed-next : (begun l next : LexerState) → PassedSoFar begun l → is_some (reading_of l).found ≡ true → next ≡ state_behind l (reading_of l) → PassedSoFar begun next
passed-next begun l next so some moved =
    record { passed = λ s at. go s at (reading_of l).found refl; plain = ap (λ x. x.reread) moved ∙ so.plain }
  where
    go : (s : Session) → state_of s ≡ begun → (found : Option SpannedView) → (reading_of l).found ≡ found → (k : ℕ) × ReadSoFar s k next
    go s at None e = let none : is_some (reading_of l).found ≡ false = ap is_some e in cc
    go s at (Some t) e =
        let here = so.passed s at in
        (suc here.0, (so_far-token s here.0 l next t here.1 e moved).0)

-- behind the read that answers the end the comments may be handed over
pub ended-has : (l next : LexerState) → l.refused ≡ false → (reading_of l).found ≡ None → next ≡ state_behind l (reading_of l) → has_comments next ≡ true
ended-has l next refused none moved =
    ap has_comments moved
    ∙ ap (λ b. not b && (state_behind l (reading_of l)).state.seen.ended) refused
    ∙ ap (λ found. (seen_behind l.state.seen (reading_of l).end_flag (kept_in found)).ended) none

pub passed-end : (begun l next : LexerState) → PassedSoFar begun l → is_some (reading_of l).found ≡ false → next ≡ state_behind l (reading_of l)
    → (s : Session) → state_of s ≡ begun → (next.comments ≡ comments_of s) × (has_comments next ≡ true)
passed-end begun l next so none moved s at = go (reading_of l).found refl
  where
    go : (found : Option SpannedView) → (reading_of l).found ≡ found → (next.comments ≡ comments_of s) × (has_comments next ≡ true)
    go (Some t) e = let some : is_some (reading_of l).found ≡ true = ap is_some e in cc
    go None e =
        let here = (so.passed s at).1 in
        let ended = so_far-end s (so.passed s at).0 l next here e moved in
        (ended.2, ended-has l next (ap (λ x. x.refused) here.state) e moved)

-- Handing over

abbrev kind_of_side : Side → BufferedCommentKind
kind_of_side place.Leading = Leading
kind_of_side place.Trailing = Trailing

abbrev buffered_of : Added → BufferedComment
buffered_of a = record { kind = kind_of_side a.side; pos = a.pos; comment = a.comment }

same-side : (kind : BufferedCommentKind) → kind_of_side (side_of kind) ≡ kind
same-side Leading = refl
same-side Trailing = refl

all-back : (comments : List BufferedComment) → map buffered_of (map added_of comments) ≡ comments
all-back [] = refl
all-back (c ∷ cs) =
    ap (λ kind. record c { kind = kind } ∷ map buffered_of (map added_of cs)) (same-side c.kind)
    ∙ ap (λ more. c ∷ more) (all-back cs)

-- a store that was empty holds all comments of the lexer
pub handed-all : (none held : List BufferedComment) (old new : LexerState) → none ≡ [] → HandsAll (map added_of none) (map added_of held) old new → held ≡ old.comments
handed-all none held old new empty all =
    let given : map added_of held ≡ map added_of old.comments = all.given ∙ ap (λ before. map added_of before ++ map added_of old.comments) empty in
    sym (all-back held) ∙ ap (map buffered_of) given ∙ all-back old.comments
