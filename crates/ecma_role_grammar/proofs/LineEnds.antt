-- A line that begins anew: a statement whose semicolon is not written ends there: one lemma for each form of production
use Rattle.std.proofs.Common.{◌≡◌, ◌∙◌, ap, Bool, true, false, List, [], ◌∷◌, refl, sym, Some, None, Option, ◌<◌, arith, if◌then◌else◌, ◌&&◌, subst}
use Rattle.ecma_word.specs.declared.keyword.Keyword.TheVariants as keyword
use Rattle.ecma_word.specs.declared.word.WordKind.TheVariants as word
use Rattle.ecma_word.specs.declared.word.IdentKind.TheVariants as ident
use Rattle.ecma_word.specs.declared.known_ident.KnownIdent.TheVariants as known
use Rattle.ecma_role_table.specs.declared.part.PartKind.TheVariants.{Name, Reserved, Sign}
use Rattle.ecma_role_table.specs.declared.part.Sign.TheVariants as sign
use Rattle.ecma_token_kind.specs.declared.kind.TokenKind.{TokenKind}
use Rattle.ecma_token_kind.specs.declared.kind.TokenKind.TheVariants as kind
use Rattle.ecma_role_table.specs.declared.frame.Around.{Around}
use Rattle.ecma_role_table.specs.declared.frame.Frame.{Frame}
use Rattle.ecma_role_table.specs.declared.frame.Kinds.TheVariants as kinds
use Rattle.ecma_role_table.specs.declared.state.State.TheVariants as state
use Rattle.ecma_role_table.specs.declared.moves.Turn.TheVariants.{Again}
use Rattle.ecma_role_table.specs.Table.{row}
use Rattle.ecma_role_moves.specs.Moves.{changed, fresh_of, moved, turned_to}
use Rattle.ecma_role_moves.specs.Nest.{Nested, dropped, nested, top, under}
use Rattle.ecma_role_tracks.specs.Track.{Reading, TrackView, ends_over, read_left, read_once, read_times, reading, stepped, track}
use Rattle.ecma_role_grammar.specs.Tokens.{Token, part, token}
use Rattle.ecma_role_grammar.specs.Grammar.{begins_anew, begins_anew_kind}
use Rattle.ecma_role_grammar.proofs.Runs.{Run, begins_alike, is_slash, no_slash}
use Rattle.ecma_role_grammar.proofs.Places.{Bare, Braces, Concise, Ended, Grouped, InterfaceOr, LabelOr, Over, Plain, Postfix, TypeOr, Whole, Yielding, at, calm_settled, declared_frames, ended, over, top_of, under_of}
use Rattle.ecma_role_grammar.proofs.Starts.{again}
use Rattle.ecma_role_grammar.proofs.Behind.{is_word_part}
use Rattle.ecma_role_grammar.proofs.Declarations.{gone_variable}
use Rattle.ecma_role_grammar.proofs.Statements.{gone_marks}
use Rattle.ecma_role_table.specs.Frames.{over_candidate, over_class_head, over_declared_for, over_for}
use Rattle.ecma_role_table.specs.declared.part.PartKind.{PartKind}
use Rattle.ecma_role_table.specs.declared.part.Reserved.TheVariants as words
use Rattle.ecma_role_table.specs.declared.part.Name.TheVariants as known_name
use Rattle.ecma_role_table.specs.declared.frame.FrameKind.{FrameKind}
use Rattle.ecma_role_table.specs.declared.state.State.{State}
use Rattle.ecma_role_table.specs.declared.moves.Move.TheVariants.{Fresh}
use Rattle.ecma_role_table.specs.Complete.{after_operand}
use Rattle.ecma_role_table.specs.Parts.{part_of_kind}
use Rattle.ecma_role_tracks.specs.Rank.{begins_statements, goes_on}
use Rattle.ecma_role_tracks.proofs.RankLemmas.{read_out_by_rank}

abbrev pub is_anew : PartKind → Bool
is_anew (Name m) = true
is_anew (Reserved words.In) = false
is_anew (Reserved words.InstanceOf) = false
is_anew (Reserved words.Extends) = false
is_anew (Reserved r) = true
is_anew (Sign sign.Literal) = true
is_anew (Sign s) = false

pub anew_part : (k : TokenKind) → begins_anew_kind k ≡ true → (is_anew (part_of_kind k) ≡ true) × (is_slash k ≡ false)
anew_part (kind.Word (word.Keyword keyword.In)) h = absurd cc
anew_part (kind.Word (word.Keyword keyword.InstanceOf)) h = absurd cc
anew_part (kind.Word (word.Keyword keyword.Extends)) h = absurd cc
anew_part (kind.Word (word.Keyword k)) h = (refl, refl)
anew_part (kind.Word (word.Ident (ident.Known known.Async))) h = (refl, refl)
anew_part (kind.Word (word.Ident (ident.Known k))) h = (refl, refl)
anew_part (kind.Word (word.Ident ident.Other)) h = (refl, refl)
anew_part (kind.Word word.Null) h = (refl, refl)
anew_part (kind.Word word.True) h = (refl, refl)
anew_part (kind.Word word.False) h = (refl, refl)
anew_part kind.Num h = (refl, refl)
anew_part kind.BigInt h = (refl, refl)
anew_part kind.Str h = (refl, refl)
anew_part k h = absurd cc

-- what is around has nothing that a word could go on with
pub record Quiet (n after : Nested) : Type 0 where
  pub settled : dropped kinds.Candidates n ≡ n
  pub no_loop : over_for (top n) ≡ false
  pub no_declared : over_declared_for (top n) (under n) ≡ false
  pub no_class : over_class_head (top n) ≡ false
  pub gone : dropped kinds.Marks n ≡ after
  pub begins : fresh_of (top after) ≡ state.Statement

fresh-move : (k : PartKind) (o u : Option FrameKind) → is_anew k ≡ true → over_for o ≡ false → over_declared_for o u ≡ false → over_class_head o ≡ false → after_operand k true false o u ≡ Fresh
fresh-move (Name known_name.Of) o u h loop declared class = rw loop (rw declared refl)
fresh-move (Name known_name.As) o u h loop declared class = refl
fresh-move (Name known_name.Satisfies) o u h loop declared class = refl
fresh-move (Name known_name.Implements) o u h loop declared class = rw class refl
fresh-move (Name m) o u h loop declared class = refl
fresh-move (Reserved words.In) o u h loop declared class = absurd cc
fresh-move (Reserved words.InstanceOf) o u h loop declared class = absurd cc
fresh-move (Reserved words.Extends) o u h loop declared class = absurd cc
fresh-move (Reserved r) o u h loop declared class = refl
fresh-move (Sign sign.Literal) o u h loop declared class = refl
fresh-move (Sign s) o u h loop declared class = absurd cc

either-same : (b : Bool) (n : Nested) → dropped kinds.Candidates n ≡ n → (if b then dropped kinds.Candidates n else n) ≡ n
either-same true n settled = settled
either-same false n settled = refl

-- a fresh start
begun-anew : (n after : Nested) (k : PartKind) → Quiet n after → moved Fresh k n ≡ turned_to (Again state.Statement k) after
unfolding moved
begun-anew n after k quiet = ap (λ m. turned_to (Again (fresh_of (top m)) k) m) quiet.gone ∙ ap (λ s. turned_to (Again s k) after) quiet.begins

after-once : (n after : Nested) (k : PartKind) → Quiet n after → is_anew k ≡ true → read_once (at state.After n) k true ≡ turned_to (Again state.Statement k) after
unfolding read_once row
after-once n after k quiet h =
    ap (λ m. moved (after_operand k true false (top m) (under m)) k m) (either-same (ends_over (top n) true k) n quiet.settled)
    ∙ ap (λ m. moved m k n) (fresh-move k (top n) (under n) h quiet.no_loop quiet.no_declared quiet.no_class)
    ∙ begun-anew n after k quiet

-- states in which it is read again as behind an operand
again-rows : (n : Nested) (k : PartKind) → is_anew k ≡ true → (read_once (at state.AfterPostfix n) k true ≡ turned_to (Again state.After k) n) × (read_once (at state.Group n) k true ≡ turned_to (Again state.After k) n) × (read_once (at state.Label n) k true ≡ turned_to (Again state.After k) n) × (read_once (at state.MaybeType n) k true ≡ turned_to (Again state.Label k) n) × (read_once (at state.MaybeInterface n) k true ≡ turned_to (Again state.Label k) n)
unfolding read_once row moved changed
again-rows n (Name m) h = (refl, refl, refl, refl, refl)
again-rows n (Reserved r) h = (refl, refl, refl, refl, refl)
again-rows n (Sign sign.Literal) h = (refl, refl, refl, refl, refl)
again-rows n (Sign s) h = absurd cc

fresh-rows : (n : Nested) (k : PartKind) → is_anew k ≡ true → (read_once (at state.Restricted n) k true ≡ moved Fresh k n) × (read_once (at state.Break n) k true ≡ moved Fresh k n)
unfolding read_once row moved changed
fresh-rows n (Name m) h = (refl, refl)
fresh-rows n (Reserved r) h = (refl, refl)
fresh-rows n (Sign sign.Literal) h = (refl, refl)
fresh-rows n (Sign s) h = absurd cc

-- so few readings are enough where a statement begins
begins-low : (b c : Bool) → (if b then 2 else if c then 0 else 1) < 5
begins-low b c = grind arith

out : (n : Nested) (k : PartKind) → (read_times 5 true (reading (at state.Statement n) (Some k))).left ≡ None
out n k = read_out_by_rank 5 (at state.Statement n) k true (begins-low (goes_on k) (begins_statements k))

still : (x : Reading) → x.left ≡ None → (read_left true x.track x.left).track ≡ x.track
still x e = ap (λ l. (read_left true x.track l).track) e

still-left : (x : Reading) → x.left ≡ None → (read_left true x.track x.left).left ≡ None
still-left x e = ap (λ l. (read_left true x.track l).left) e

one-more : (x : Reading) → Reading
one-more x = read_left true x.track x.left

few : (n : Nested) (k : PartKind) → ((read_times 6 true (reading (at state.Statement n) (Some k))).track ≡ (read_times 5 true (reading (at state.Statement n) (Some k))).track) × ((read_times 7 true (reading (at state.Statement n) (Some k))).track ≡ (read_times 5 true (reading (at state.Statement n) (Some k))).track) × ((read_times 8 true (reading (at state.Statement n) (Some k))).track ≡ (read_times 5 true (reading (at state.Statement n) (Some k))).track)
unfolding read_times
few n k =
    let x = read_times 5 true (reading (at state.Statement n) (Some k)) in
    let e = out n k in
    let y = read_left true x.track x.left in
    let f = still-left x e in
    let z = read_left true y.track y.left in
    let g = still-left y f in
    (still x e, still y f ∙ still x e, still z g ∙ still y f ∙ still x e)

abbrev pub Anew : TrackView → Nested → PartKind → Type 0
Anew t after k = (read_times 8 true (reading t (Some k))).track ≡ (read_times 8 true (reading (at state.Statement after) (Some k))).track

first-path : (t : TrackView) (after : Nested) (k : PartKind) → t.typescript ≡ false → read_once t k true ≡ turned_to (Again state.Statement k) after → Anew t after k
first-path t after k js is = let f = few after k in ap (λ r. r.track) (again 7 true t k k state.Statement after is) ∙ ap (λ ts. (read_times 7 true (reading (track state.Statement after ts) (Some k))).track) js ∙ f.1 ∙ sym f.2

second-path : (s : State) (n after : Nested) (k : PartKind) → read_once (at s n) k true ≡ turned_to (Again state.After k) n → read_once (at state.After n) k true ≡ turned_to (Again state.Statement k) after → Anew (at s n) after k
second-path s n after k first is = let f = few after k in ap (λ r. r.track) (again 7 true (at s n) k k state.After n first ∙ again 6 true (at state.After n) k k state.Statement after is) ∙ f.0 ∙ sym f.2

third-path : (s : State) (n after : Nested) (k : PartKind) → read_once (at s n) k true ≡ turned_to (Again state.Label k) n → read_once (at state.Label n) k true ≡ turned_to (Again state.After k) n → read_once (at state.After n) k true ≡ turned_to (Again state.Statement k) after → Anew (at s n) after k
third-path s n after k first second is = let f = few after k in ap (λ r. r.track) (again 7 true (at s n) k k state.Label n first ∙ again 6 true (at state.Label n) k k state.After n second ∙ again 5 true (at state.After n) k k state.Statement after is) ∙ sym f.2

arrow-again : (n : Nested) (k : PartKind) → is_word_part k ≡ true → read_once (at state.ArrowEnd n) k true ≡ turned_to (Again state.After k) n
unfolding read_once row moved changed
arrow-again n (Name m) h = refl
arrow-again n (Reserved r) h = refl
arrow-again n (Sign s) h = absurd cc

arrow-literal : (n : Nested) → read_once (at state.ArrowEnd n) (Sign sign.Literal) true ≡ moved Fresh (Sign sign.Literal) n
unfolding read_once row moved changed
arrow-literal n = refl

braces-anew : (n after : Nested) (k : PartKind) → Quiet n after → is_anew k ≡ true → Anew (at state.ArrowEnd n) after k
braces-anew n after (Name m) quiet h = second-path state.ArrowEnd n after (Name m) (arrow-again n (Name m) refl) (after-once n after (Name m) quiet h)
braces-anew n after (Reserved r) quiet h = second-path state.ArrowEnd n after (Reserved r) (arrow-again n (Reserved r) refl) (after-once n after (Reserved r) quiet h)
braces-anew n after (Sign sign.Literal) quiet h = first-path (at state.ArrowEnd n) after (Sign sign.Literal) refl (arrow-literal n ∙ begun-anew n after (Sign sign.Literal) quiet)
braces-anew n after (Sign s) quiet h = absurd cc

pub ended_anew : (e : Ended) (n after : Nested) (k : PartKind) → Quiet n after → is_anew k ≡ true → Anew (ended e n) after k
ended_anew (Whole Plain) n after k quiet h = first-path (at state.After n) after k refl (after-once n after k quiet h)
ended_anew (Whole Postfix) n after k quiet h = second-path state.AfterPostfix n after k (again-rows n k h).0 (after-once n after k quiet h)
ended_anew (Whole Grouped) n after k quiet h = second-path state.Group n after k (again-rows n k h).1 (after-once n after k quiet h)
ended_anew (Whole LabelOr) n after k quiet h = second-path state.Label n after k (again-rows n k h).2 (after-once n after k quiet h)
ended_anew (Whole TypeOr) n after k quiet h = third-path state.MaybeType n after k (again-rows n k h).3 (again-rows n k h).2 (after-once n after k quiet h)
ended_anew (Whole InterfaceOr) n after k quiet h = third-path state.MaybeInterface n after k (again-rows n k h).4 (again-rows n k h).2 (after-once n after k quiet h)
ended_anew Braces n after k quiet h = braces-anew n after k quiet h
ended_anew Yielding n after k quiet h = first-path (at state.Restricted n) after k refl ((fresh-rows n k h).0 ∙ begun-anew n after k quiet)

pub restricted_anew : (n after : Nested) (k : PartKind) → Quiet n after → is_anew k ≡ true → Anew (at state.Restricted n) after k
restricted_anew n after k quiet h = first-path (at state.Restricted n) after k refl ((fresh-rows n k h).0 ∙ begun-anew n after k quiet)

pub break_anew : (n after : Nested) (k : PartKind) → Quiet n after → is_anew k ≡ true → Anew (at state.Break n) after k
break_anew n after k quiet h = first-path (at state.Break n) after k refl ((fresh-rows n k h).1 ∙ begun-anew n after k quiet)

abbrev is_of_name : PartKind → Bool
is_of_name (Name known_name.Of) = true
is_of_name k = false

binding-of : (n : Nested) → read_once (at state.AfterBinding n) (Name known_name.Of) true ≡ turned_to (Again state.After (Name known_name.Of)) n
unfolding read_once row moved changed
binding-of n = refl

binding-fresh : (n : Nested) (k : PartKind) → is_anew k ≡ true → is_of_name k ≡ false → read_once (at state.AfterBinding n) k true ≡ moved Fresh k n
unfolding read_once row moved changed
binding-fresh n (Name known_name.Of) h g = absurd cc
binding-fresh n (Name m) h g = refl
binding-fresh n (Reserved words.In) h g = absurd cc
binding-fresh n (Reserved r) h g = refl
binding-fresh n (Sign sign.Literal) h g = refl
binding-fresh n (Sign s) h g = absurd cc

pub binding_anew : (n after : Nested) (k : PartKind) → Quiet n after → is_anew k ≡ true → Anew (at state.AfterBinding n) after k
binding_anew n after (Name known_name.Of) quiet h = second-path state.AfterBinding n after (Name known_name.Of) (binding-of n) (after-once n after (Name known_name.Of) quiet h)
binding_anew n after (Name m) quiet h = first-path (at state.AfterBinding n) after (Name m) refl (binding-fresh n (Name m) h refl ∙ begun-anew n after (Name m) quiet)
binding_anew n after (Reserved r) quiet h = first-path (at state.AfterBinding n) after (Reserved r) refl (binding-fresh n (Reserved r) h refl ∙ begun-anew n after (Reserved r) quiet)
binding_anew n after (Sign s) quiet h = first-path (at state.AfterBinding n) after (Sign s) refl (binding-fresh n (Sign s) h refl ∙ begun-anew n after (Sign s) quiet)

-- what is around where statements stand
quiet-calm : (o : Option FrameKind) → fresh_of o ≡ state.Statement → (over_candidate o ≡ false) × (over_for o ≡ false) × (over_class_head o ≡ false)
quiet-calm o h = (calm o h, loop o h, class o h)
  where
    calm : (o : Option FrameKind) → fresh_of o ≡ state.Statement → over_candidate o ≡ false
    calm o h = grind (arith, h)

    loop : (o : Option FrameKind) → fresh_of o ≡ state.Statement → over_for o ≡ false
    loop o h = grind (arith, h)

    class : (o : Option FrameKind) → fresh_of o ≡ state.Statement → over_class_head o ≡ false
    class o h = grind (arith, h)

quiet-declared : (o u : Option FrameKind) → fresh_of o ≡ state.Statement → over_declared_for o u ≡ false
quiet-declared o u h = grind (arith, h)

pub quiet_over : (fs : List Frame) (a : Around) (m : Over) (pend : Around) → fresh_of (top_of fs) ≡ state.Statement → Quiet (over fs a m pend) (nested fs a pend)
quiet_over fs a Bare pend h =
    let q = quiet-calm (top_of fs) h in
    record { settled = calm_settled (over fs a Bare pend) q.0; no_loop = q.1; no_declared = quiet-declared (top_of fs) (under_of fs) h; no_class = q.2; gone = gone_marks fs a Bare pend h; begins = h }
quiet_over fs a (Concise b) pend h = record { settled = calm_settled (over fs a (Concise b) pend) refl; no_loop = refl; no_declared = refl; no_class = refl; gone = gone_marks fs a (Concise b) pend h; begins = h }

pub quiet_variable : (fs : List Frame) (a : Around) (m : Over) (pend : Around) → fresh_of (top_of fs) ≡ state.Statement → Quiet (over (declared_frames fs a) a m pend) (nested fs a pend)
quiet_variable fs a Bare pend h = record { settled = calm_settled (over (declared_frames fs a) a Bare pend) refl; no_loop = refl; no_declared = (quiet-calm (top_of fs) h).1; no_class = refl; gone = gone_variable fs a Bare pend h; begins = h }
quiet_variable fs a (Concise b) pend h = record { settled = calm_settled (over (declared_frames fs a) a (Concise b) pend) refl; no_loop = refl; no_declared = refl; no_class = refl; gone = gone_variable fs a (Concise b) pend h; begins = h }

both-left : (b c : Bool) → (b && c) ≡ true → b ≡ true
both-left b c h = grind (arith, h)

both-right : (b c : Bool) → (b && c) ≡ true → c ≡ true
both-right b c h = grind (arith, h)

-- the first token of a line that begins anew
pub line_run : (xs : List Token) (t v : TrackView) (n : Nested) → begins_anew xs ≡ true → ((k : TokenKind) → begins_anew_kind k ≡ true → stepped t (part (token k true)) ≡ stepped (at state.Statement n) (part (token k true))) → Run (at state.Statement n) xs v → Run t xs v
line_run [] t v n h anew run = absurd cc
line_run (x ∷ xs) t v n h anew run =
    let kind-anew = both-left (begins_anew_kind x.kind) x.had_line_break h in
    let broken = both-right (begins_anew_kind x.kind) x.had_line_break h in
    let same : stepped t (part x) ≡ stepped (at state.Statement n) (part x) = subst (λ b. stepped t (part (token x.kind b)) ≡ stepped (at state.Statement n) (part (token x.kind b))) (sym broken) (anew x.kind kind-anew) in
    begins_alike (no_slash t x.kind (anew_part x.kind kind-anew).1) same run
