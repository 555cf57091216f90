-- What is gathered of the tokens of a text that is read, one more at a time.
use Rattle.std.proofs.Common.{◌≡◌, ◌∙◌, Bool, true, false, List, [], ◌∷◌, ◌++◌, Option, Some, None, append-nil, append_assoc, subst, sym, ap}
use Rattle.std.proofs.lemmas.Bool.{false≢true, true≢false}
use Rattle.ecma_token.specs.View.{SpannedView}
use Rattle.ecma_state.specs.Session.{Session}
use Rattle.ecma_reader.specs.Rereads.{SlashRule}
use Rattle.ecma_reader.specs.Readers.{HasRead, Reads, Tells, expected_behind, tokens_by, tokens_found}
use Rattle.ecma_reader.specs.declared.reader.Reader.{Reader}
use Rattle.ecma_module_table.specs.declared.rows.ModuleOptions.{ModuleOptions}
use Rattle.ecma_modules.specs.Modules.{GatheringView, gathered, gathered_with}
use Rattle.ecma_module_reader.specs.Readings.{Gathers, module_token, module_tokens, module_tokens_behind}
use Rattle.ecma_modules.proofs.GoOnLemmas.{gathered-on}

tokens-on : (rule : SlashRule) (begin : Session) (before xs : List SpannedView) (t : SpannedView)
    → module_tokens_behind rule begin before (xs ++ t ∷ []) ≡ module_tokens_behind rule begin before xs ++ module_token (expected_behind rule begin ((before ++ xs) ++ t ∷ [])) t ∷ []
tokens-on rule begin before [] t = ap (λ ts. module_token (expected_behind rule begin (ts ++ t ∷ [])) t ∷ []) (sym (append-nil before))
tokens-on rule begin before (x ∷ xs) t =
    let first = module_token (expected_behind rule begin (before ++ x ∷ [])) x in
    ap (λ ks. first ∷ ks) (tokens-on rule begin (before ++ x ∷ []) xs t)
    ∙ ap (λ ts. first ∷ (module_tokens_behind rule begin (before ++ x ∷ []) xs ++ module_token (expected_behind rule begin (ts ++ t ∷ [])) t ∷ [])) (append_assoc before (x ∷ []) xs)

-- one token more
pub gathers-on : (rule : SlashRule) (begin : Session) (options : ModuleOptions) (tokens : List SpannedView) (t : SpannedView) (old new : GatheringView)
    → Gathers rule begin options old tokens → new ≡ gathered_with old (module_token (expected_behind rule begin (tokens ++ t ∷ [])) t) → Gathers rule begin options new (tokens ++ t ∷ [])
gathers-on rule begin options tokens t old new so added =
    let token = module_token (expected_behind rule begin (tokens ++ t ∷ [])) t in
    added
    ∙ ap (λ g. gathered_with g token) so
    ∙ sym (gathered-on options (module_tokens rule begin tokens) token)
    ∙ ap (gathered options) (sym (tokens-on rule begin [] tokens t))

-- a loop that gathers what each token tells that is read

pub gathers-next : (rule : SlashRule) (begin : Session) (options : ModuleOptions) (old new : GatheringView) (before after : Reader) (found : Option SpannedView) (more : Bool)
    (tells : Tells rule begin (Gathers rule begin options old) before) → Reads rule begin tells.tokens found more after → more ≡ true
    → Gathers rule begin options new (tells.tokens ++ tokens_found found) → Tells rule begin (Gathers rule begin options new) after
gathers-next rule begin options old new before after None more tells reads going gathers = absurd (false≢true (sym reads.told ∙ going))
gathers-next rule begin options old new before after (Some t) more tells reads going gathers = record { tokens = tells.tokens ++ t ∷ []; shows = reads.goes; holds = gathers }

pub gathers-end : (rule : SlashRule) (begin : Session) (options : ModuleOptions) (old new : GatheringView) (before after : Reader) (found : Option SpannedView) (more : Bool)
    (tells : Tells rule begin (Gathers rule begin options old) before) → Reads rule begin tells.tokens found more after → more ≡ false
    → Gathers rule begin options new (tells.tokens ++ tokens_found found) → Gathers rule begin options new (tokens_by rule begin) × HasRead rule begin after
gathers-end rule begin options old new before after None more tells reads ended gathers =
    (subst (λ ts. Gathers rule begin options new ts) (append-nil tells.tokens ∙ reads.goes.0) gathers, reads.goes.1)
gathers-end rule begin options old new before after (Some t) more tells reads ended gathers = absurd (true≢false (sym reads.told ∙ ended))
