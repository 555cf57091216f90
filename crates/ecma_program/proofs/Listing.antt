-- A loop that lists the tokens of a text.
use Rattle.std.proofs.Common.{◌≡◌, ℕ, suc, ◌<◌, ◌≤◌, Bool, true, false, List, [], ◌∷◌, ◌++◌, Option, Some, None, IsUtf8, length, take, drop, take-append-drop, append-nil, map, refl, sym, subst, ap, ◌∙◌, arith}
use Rattle.std.specs.Prelude.{option_map, flat_map, is_some}
use Rattle.std.specs.Str.{chars}
use Rattle.std.proofs.lemmas.Str.{encodes-chars}
use Rattle.std.proofs.lemmas.Grind.{flat_map-append}
use Rattle.ecma_place.specs.Cursor.{Cursor, place}
use Rattle.ecma_place.specs.Text.{Text, byte_len}
use Rattle.ecma_place.proofs.MoveLemmas.{byte_len-append}
use Rattle.ecma_token.specs.View.{SpannedView, spanned_view}
use Rattle.ecma_state.specs.declared.kept.Kept.{Kept}
use Rattle.ecma_state.specs.declared.step.Step.TheVariants.{SetCtx}
use Rattle.ecma_state.specs.Session.{LexerState, Session, kept_back, kept_of, lexer_state, state_of}
use Rattle.ecma_state.specs.Ending.{behind_reads, errors_of, most_tokens, reads, tokens_of}
use Rattle.ecma_state.specs.Reading.{reading}
use Rattle.ecma_state.specs.Run.{mode_of, reading_of, start_of, state_behind}
use Rattle.ecma_reads.proofs.EndLemmas.{reading-on}
use Rattle.ecma_reads.proofs.EndingLemmas.{ReadSoFar, plain-reading, read_tokens, so_far-end, so_far-plain, so_far-start, so_far-token, tokens_run_out}
use Rattle.ecma_laws.proofs.TilingLemmas.{Standing, act_standing, fold_standing, session_standing}
use Rattle.ecma_options.specs.Begin.{begin, context, settings, whole}
use Rattle.ecma_program.specs.ErrorLines.{errors_from, errors_text, found_lines, list_lines, token_lines}
use Rattle.ecma_program.specs.Lines.{line, lines, tokens_from, tokens_text}
use Rattle.ecma_program.specs.Rereads.{AllWithin, Stands, session_behind}
use Rattle.ecma_program.specs.declared.rereads.ReadAgain.{ReadAgain}
use Rattle.ecma_program.proofs.RereadLemmas.{in-order-within, rereads-standing}
use Rattle.ecma_options.specs.declared.options.Options.{Options}

pub some-kept : (found : Option SpannedView) (k : Kept) → Some k ≡ option_map kept_of found → (t : SpannedView) × (found ≡ Some t) × (kept_of t ≡ k)
some-kept None k e = cc
some-kept (Some t) k e = (t, refl, (let same : kept_of t ≡ k = cc in same))

pub no-kept : (found : Option SpannedView) → None ≡ option_map kept_of found → found ≡ None
no-kept None e = refl
no-kept (Some t) e = cc

byte_len-take-le : (n : ℕ) (text : Text) → byte_len (take n text) ≤ byte_len text
byte_len-take-le n text =
    let whole = sym (byte_len-append (take n text) (drop n text)) ∙ ap byte_len (take-append-drop n text) in
    omega (arith, whole)

-- the tokens of a run stand in the text, also behind the setting of a context
begin-standing : (collects : Bool) (o : Options) (bytes : List ℕ) → Standing (whole bytes) (begin collects o bytes)
begin-standing collects o bytes = act_standing (whole bytes) (start_of (settings collects o) (whole bytes)) (SetCtx (context o)) (session_standing (settings collects o) (whole bytes) [])

pub session_behind-standing : (collects : Bool) (o : Options) (rereads bytes : List ℕ) (s : Session) → session_behind collects o rereads bytes ≡ Some s → Standing (whole bytes) s
session_behind-standing collects o rereads bytes s opened = rereads-standing (whole bytes) 0 (begin collects o bytes) rereads s (begin-standing collects o bytes) opened

-- nothing is read again where a run begins, and nothing was read
pub begin-stands : (collects : Bool) (o : Options) (bytes : List ℕ) (opened : ReadAgain) → lexer_state opened.lexer ≡ state_of (begin collects o bytes) → opened.tokens.items ≡ [] → Stands (begin collects o bytes) opened
begin-stands collects o bytes opened at none = record { state = at; plain = refl; kept = ap (map spanned_view) none }

-- all bytes of a text that a run stands in
text-length : (bytes : List ℕ) (s : Session) (now : Cursor) → IsUtf8 bytes → Standing (whole bytes) s → now.start ≡ s.input.start → now.text ≡ s.input.text → place now ≤ length bytes
text-length bytes s now utf8 standing same_start same_text =
    let start : now.start ≡ 0 = same_start ∙ standing.start in
    let text : now.text ≡ chars bytes = same_text ∙ standing.text in
    let bound = byte_len-take-le now.at now.text in
    let all : byte_len now.text ≡ length bytes = ap byte_len text ∙ ap length (encodes-chars bytes utf8) in
    omega (arith, start, bound, all)

-- the tokens up to there stand in the text
pub first-within : (bytes : List ℕ) (s : Session) (opened : ReadAgain) → IsUtf8 bytes → Standing (whole bytes) s → Stands s opened → AllWithin (length bytes) (map spanned_view opened.tokens.items)
first-within bytes s opened utf8 standing stands =
    subst (AllWithin (length bytes)) (sym stands.kept)
    (in-order-within (place (whole bytes)) (place s.input) (length bytes) (kept_back s.past) standing.order (text-length bytes s s.input utf8 standing refl refl))

-- a token that is read behind them stands in the text
pub token-within : (bytes : List ℕ) (s : Session) → IsUtf8 bytes → Standing (whole bytes) s → (k : ℕ) (l : LexerState) → ReadSoFar s k l → (t : SpannedView) → (reading_of l).found ≡ Some t
    → (t.span.lo.0 ≤ t.span.hi.0) × (t.span.hi.0 ≤ length bytes)
token-within bytes s utf8 standing k l so t found =
    let there = fold_standing (whole bytes) s (reads k) standing in
    let on = reading-on (mode_of l) l.input in
    let same = plain-reading l (so_far-plain s k l so) in
    let now = (reading (mode_of l) l.input).input in
    let all = text-length bytes (behind_reads k s) now utf8 there (on.start ∙ ap (λ x. x.input.start) so.state) (on.text ∙ ap (λ x. x.input.text) so.state) in
    let at = on.token t (ap (λ r. r.found) (sym same) ∙ found) in
    let order = at.1 in
    let ends = at.2 in
    (order, omega (arith, ends, all))

-- less is left behind it
pub token-less : (l next : LexerState) (t : SpannedView) → l.reread ≡ None → (reading_of l).found ≡ Some t → next ≡ state_behind l (reading_of l) → most_tokens next < most_tokens l
token-less l next t plain found moved = rw moved (tokens_run_out l t plain found)

-- the same where it is known only that there was one
pub some-less : (l next : LexerState) → l.reread ≡ None → is_some (reading_of l).found ≡ true → next ≡ state_behind l (reading_of l) → most_tokens next < most_tokens l
some-less l next plain some moved = go (reading_of l).found refl
  where
    go : (found : Option SpannedView) → (reading_of l).found ≡ found → most_tokens next < most_tokens l
    go None e = let none : is_some (reading_of l).found ≡ false = ap is_some e in cc
    go (Some t) e = token-less l next t plain e moved

-- What is written of each token

-- what is written of the tokens so far of a text, from where all that was to be read again was
pub record Listed (o : Options) (rereads bytes : List ℕ) (text_of : SpannedView → List ℕ) (l : LexerState) (out : List ℕ) : Type 0 where
  pub session : Session
  pub opened : session_behind false o rereads bytes ≡ Some session
  pub count : ℕ
  pub state : ReadSoFar session count l
  pub written : out ≡ flat_map text_of (read_tokens session count)

pub listed-plain : (o : Options) (rereads bytes : List ℕ) (text_of : SpannedView → List ℕ) (l : LexerState) (out : List ℕ) → Listed o rereads bytes text_of l out → l.reread ≡ None
listed-plain o rereads bytes text_of l out so = so_far-plain so.session so.count l so.state

-- that of the first tokens
pub listed-start : (o : Options) (rereads bytes : List ℕ) (text_of : SpannedView → List ℕ) (out : List ℕ) (s : Session) (opened : ReadAgain)
    → session_behind false o rereads bytes ≡ Some s → Stands s opened → out ≡ flat_map text_of (map spanned_view opened.tokens.items)
    → Listed o rereads bytes text_of (lexer_state opened.lexer) out
listed-start o rereads bytes text_of out s opened at stands first =
    record {
      session = s;
      opened = at;
      count = 0;
      state = subst (ReadSoFar s 0) (sym stands.state) (so_far-start s stands.plain);
      written = first ∙ ap (flat_map text_of) stands.kept;
    }

-- with one more token
pub listed-next : (o : Options) (rereads bytes : List ℕ) (text_of : SpannedView → List ℕ) (l next : LexerState) (out new : List ℕ) (t : SpannedView) → Listed o rereads bytes text_of l out
    → (reading_of l).found ≡ Some t → next ≡ state_behind l (reading_of l) → new ≡ out ++ text_of t → Listed o rereads bytes text_of next new
listed-next o rereads bytes text_of l next out new t so found moved added =
    let s = so.session in
    let k : ℕ = so.count in
    let more = so_far-token s k l next t so.state found moved in
    let all : flat_map text_of (read_tokens s (suc k)) ≡ flat_map text_of (read_tokens s k) ++ text_of t =
    ap (flat_map text_of) more.1
    ∙ flat_map-append text_of (read_tokens s k) (t ∷ [])
    ∙ ap (λ tail. flat_map text_of (read_tokens s k) ++ tail) (append-nil (text_of t)) in
    record { session = s; opened = so.opened; count = suc k; state = more.0; written = added ∙ ap (λ before. before ++ text_of t) so.written ∙ sym all }

-- behind the read that answers the end it is that of all tokens, and the errors are those of the text
pub listed-end : (o : Options) (rereads bytes : List ℕ) (text_of : SpannedView → List ℕ) (l next : LexerState) (out : List ℕ) (so : Listed o rereads bytes text_of l out)
    → (reading_of l).found ≡ None → next ≡ state_behind l (reading_of l)
    → (out ≡ flat_map text_of (tokens_of so.session)) × (next.errors ≡ errors_of so.session)
listed-end o rereads bytes text_of l next out so none moved =
    let ended = so_far-end so.session so.count l next so.state none moved in
    (so.written ∙ ap (flat_map text_of) ended.0, ended.1)

-- the lines of tokens

-- the line of a token as it is kept
abbrev pub line_of : List ℕ → SpannedView → List ℕ
line_of bytes t = line bytes (kept_of t)

pub lines-kept : (bytes : List ℕ) (ts : List SpannedView) → lines bytes (map kept_of ts) ≡ flat_map (line_of bytes) ts
lines-kept bytes [] = refl
lines-kept bytes (t ∷ ts) = ap (λ more. line bytes (kept_of t) ++ more) (lines-kept bytes ts)

pub lines-end : (o : Options) (rereads bytes : List ℕ) (l next : LexerState) (out : List ℕ) → Listed o rereads bytes (line_of bytes) l out
    → (reading_of l).found ≡ None → next ≡ state_behind l (reading_of l) → tokens_text o rereads bytes ≡ Some out
lines-end o rereads bytes l next out so none moved =
    let ended = listed-end o rereads bytes (line_of bytes) l next out so none moved in
    ap (option_map (tokens_from bytes)) so.opened ∙ ap (λ text. Some text) (lines-kept bytes (tokens_of so.session) ∙ sym ended.0)

-- the lines of the errors of tokens

pub errors-next : (o : Options) (rereads bytes : List ℕ) (l next : LexerState) (out new : List ℕ) → Listed o rereads bytes token_lines l out → is_some (reading_of l).found ≡ true
    → next ≡ state_behind l (reading_of l) → new ≡ out ++ found_lines (reading_of l).found → Listed o rereads bytes token_lines next new
errors-next o rereads bytes l next out new so some moved added = go (reading_of l).found refl
  where
    go : (found : Option SpannedView) → (reading_of l).found ≡ found → Listed o rereads bytes token_lines next new
    go None e = let none : is_some (reading_of l).found ≡ false = ap is_some e in cc
    go (Some t) e = listed-next o rereads bytes token_lines l next out new t so e moved (added ∙ ap (λ found. out ++ found_lines found) e)

-- behind the read that answers the end, the lines of the lists are all that is missing
pub errors-end : (o : Options) (rereads bytes : List ℕ) (l next : LexerState) (out more all : List ℕ) → Listed o rereads bytes token_lines l out → is_some (reading_of l).found ≡ false
    → next ≡ state_behind l (reading_of l) → more ≡ out ++ found_lines (reading_of l).found → all ≡ more ++ list_lines next.errors → errors_text o rereads bytes ≡ Some all
errors-end o rereads bytes l next out more all so none moved added lists = go (reading_of l).found refl
  where
    go : (found : Option SpannedView) → (reading_of l).found ≡ found → errors_text o rereads bytes ≡ Some all
    go (Some t) e = let some : is_some (reading_of l).found ≡ true = ap is_some e in cc
    go None e =
        let ended = listed-end o rereads bytes token_lines l next out so e moved in
        let tokens : more ≡ flat_map token_lines (tokens_of so.session) = added ∙ ap (λ found. out ++ found_lines found) e ∙ append-nil out ∙ ended.0 in
        let whole : all ≡ errors_from so.session =
        lists ∙ ap (λ front. front ++ list_lines next.errors) tokens ∙ ap (λ errors. flat_map token_lines (tokens_of so.session) ++ list_lines errors) ended.1 in
        ap (option_map errors_from) so.opened ∙ ap (λ text. Some text) (sym whole)
