-- A lexer is where its own checkpoint says, and is one still where it went back.
use Rattle.std.specs.Prelude.{OnErr, is_err}
use Rattle.std.proofs.Common.{ℕ, Bool, false, Result, Ok, Err, List, ◌++◌, length, map, take, ◌≡◌, ◌∙◌, arith, [], refl, subst, sym, ap}
use Rattle.std.proofs.Math.Seq.{take-append_seam}
use Rattle.std.proofs.lemmas.List.{length-map, take-map}
use Rattle.ecma_place.specs.Cursor.{Cursor, place}
use Rattle.ecma_token.specs.View.{error_view}
use Rattle.ecma_token.specs.declared.error.Error.{Error}
use Rattle.ecma_state.specs.Run.{at_place}
use Rattle.ecma_comments.specs.Buffers.{CommentsValue}
use Rattle.ecma_comments.specs.declared.comments_buffer.BufferedComment.{BufferedComment}
use Rattle.ecma_state.proofs.ErrorLemmas.{cut-recorded, cut-waiting}
use Rattle.ecma_state.specs.Errors.{Begins, ErrorsValue}
use Rattle.ecma_state.specs.Session.{LexerValue, lexer_state}
use Rattle.ecma_state.specs.State.{StateValue}
use Rattle.ecma_checkpoint.specs.Checkpoints.{CheckpointValue, Fits, GoesBack, checkpoint_of, counts_of}
use Rattle.ecma_stream.specs.View.{HasMore, IsLexer, cut_to, lexer_view}
use Rattle.ecma_stream.specs.declared.lexer.Lexer.TheInside.{Inside}
use Rattle.ecma_reads.proofs.SlashLemmas.{place-there, stands-moved}

-- the first errors of a list, as they are seen
pub take_view : (n : ℕ) (errors : List Error) → map error_view (take n errors) ≡ take n (map error_view errors)
take_view n errors = sym (take-map error_view n errors)

pub goes-back : (a : Inside) (l : LexerValue) → lexer_view a ≡ l → IsLexer a → GoesBack (checkpoint_of (lexer_state l)) (lexer_state l)
goes-back a l shows is = subst (λ k. GoesBack (checkpoint_of (lexer_state k)) (lexer_state k)) shows own
  where
    own : GoesBack (checkpoint_of (lexer_state (lexer_view a))) (lexer_state (lexer_view a))
    own = record {
      from = refl;
      within = record { recorded = omega arith; waiting = omega arith; comments = omega arith };
      fits = record { has_place = (a.input.at, refl); opened_before = is.opened; slash_reread = is.reread; slash_answered = is.answered };
    }

-- what always holds of a lexer holds of one that is at a checkpoint of this text
pub rewound-lexer : (text : Cursor) (b : Inside) (c : CheckpointValue) → Fits c text → b.input ≡ at_place c.at text → b.state ≡ c.state → b.reread ≡ c.reread
    → b.comments.pending_leading ≡ [] → IsLexer b
rewound-lexer text b c fits input state reread pending =
    let there : place b.input ≡ c.at.0 = ap place input ∙ place-there text c.at fits.has_place in
    let before = fits.opened_before in
    record {
      opened = rw state (omega (arith, before, there));
      none_pending = pending;
      answered = rw state (λ p h. stands-moved text b.input c.state.opened p (ap (λ i. i.start) input) (ap (λ i. i.text) input) (fits.slash_answered p h));
      reread = rw (state, reread) (λ p h. stands-moved text b.input c.state.opened p (ap (λ i. i.start) input) (ap (λ i. i.text) input) (fits.slash_reread p h));
    }

-- Errors and comments that were added, and are cut off

pub has-more : (a : Inside) (l : LexerValue) (state : StateValue) (errors : ErrorsValue) (comments : CommentsValue) (more : List BufferedComment) → lexer_view a ≡ l
    → state ≡ a.state → Begins a.errors errors → comments.comments ≡ a.comments.comments ++ more
    → HasMore l (lexer_view (record a { state = state; errors = errors; comments = comments }))
has-more a l state errors comments more shows same begins added =
    subst (λ k. HasMore k (lexer_view (record a { state = state; errors = errors; comments = comments }))) shows
    (record {
      same = ap (λ s. lexer_view (record a { state = s })) same;
      errors = begins;
      comments = ap (take (length a.comments.comments)) added ∙ take-append_seam a.comments.comments more;
    })

same-errors : (old : ErrorsValue) (recorded waiting : List Error) → recorded ≡ old.recorded → waiting ≡ old.waiting → (let both : ErrorsValue = record { recorded = recorded; waiting = waiting } in both ≡ old)
same-errors old recorded waiting first second = rw (first, second) refl

pub cut-more : (old now : LexerValue) → HasMore old now → cut_to (counts_of (lexer_state old)) now ≡ old
cut-more old now more =
    let recorded = ap (λ n. take n now.errors.recorded) (length-map old.errors.recorded error_view) ∙ cut-recorded old.errors now.errors more.errors in
    let waiting = ap (λ n. take n now.errors.waiting) (length-map old.errors.waiting error_view) ∙ cut-waiting old.errors now.errors more.errors in
    ap (λ e. record now { errors = e; comments = take (length old.comments) now.comments }) (same-errors old.errors _ _ recorded waiting)
    ∙ ap (λ c. record now { errors = old.errors; comments = c }) more.comments
    ∙ more.same

-- what holds where a call was refused

pub map-err : {A B P Q : Type 0} → (result : Result A B) → OnErr result P → (P → Q) → OnErr result Q
map-err (Ok value) holds f = tt
map-err (Err error) holds f = f holds

pub on-err : {A B P : Type 0} → (result : Result A B) → P → OnErr result P
on-err (Ok value) holds = tt
on-err (Err error) holds = holds

pub no-err : {A B : Type 0} → (Q : Type 0) (result : Result A B) (is_refused : Bool) → is_refused ≡ is_err result → is_refused ≡ false → OnErr result Q
no-err Q (Ok value) is_refused is ok = tt
no-err Q (Err error) is_refused is ok = cc
