-- The tokens of a text that is read, and what is gathered of them
use Rattle.std.specs.Prelude.{◌≡◌, List, [], ◌∷◌, ◌++◌, Option, Some, None, if◌then◌else◌}
use Rattle.ecma_token.specs.View.{SpannedView}
use Rattle.ecma_token.specs.declared.kind.TokenKind.{TokenKind}
use Rattle.ecma_state.specs.Session.{Session, kept_of}
use Rattle.ecma_slashes.specs.declared.decider.Expected.{Expected}
use Rattle.ecma_reader.specs.Rereads.{SlashRule}
use Rattle.ecma_reader.specs.Readers.{expected_behind}
use Rattle.ecma_module_table.specs.declared.rows.ModuleOptions.{ModuleOptions}
use Rattle.ecma_modules.specs.Modules.{GatheringView, gathered}
use Rattle.ecma_modules.specs.Regions.{is_asked, region_behind}
use Rattle.ecma_modules.specs.declared.region.ModuleToken.{ModuleToken}
use Rattle.ecma_modules.specs.declared.region.Region.{Region}
use Rattle.ecma_modules.specs.declared.region.Region.TheVariants as region

-- the region of a token, by what is expected behind it: where nothing is known of that, as if it were code
abbrev pub region_expected : Option Expected → Region
region_expected None = region.Code
region_expected (Some e) = region_behind e.state e.top

abbrev pub region_of : TokenKind → Option Expected → Region
region_of kind expected = if is_asked kind then region_expected expected else region.Code

-- a token, by what is expected behind it
abbrev pub module_token : Option Expected → SpannedView → ModuleToken
module_token expected t = record { kept = kept_of t; region = region_of (kept_of t).kind expected }

-- tokens that come behind others, which were read by a rule from a session on
abbrev pub module_tokens_behind : SlashRule → Session → List SpannedView → List SpannedView → List ModuleToken
module_tokens_behind rule begin before [] = []
module_tokens_behind rule begin before (t ∷ ts) = module_token (expected_behind rule begin (before ++ t ∷ [])) t ∷ module_tokens_behind rule begin (before ++ t ∷ []) ts

abbrev pub module_tokens : SlashRule → Session → List SpannedView → List ModuleToken
module_tokens rule begin tokens = module_tokens_behind rule begin [] tokens

-- what they tell was gathered
abbrev pub Gathers : SlashRule → Session → ModuleOptions → GatheringView → List SpannedView → Type 0
Gathers rule begin options g tokens = g ≡ gathered options (module_tokens rule begin tokens)
