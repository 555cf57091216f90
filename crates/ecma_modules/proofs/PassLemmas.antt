-- Tokens that tell nothing and change no more than the stage.
use Rattle.std.proofs.Common.{◌≡◌, ◌∙◌, ◌⊎◌, Bool, true, false, Option, Some, None, inl, inr, refl, sym, ap, subst, arith, ⊎_elim}
use Rattle.std.specs.Prelude.{IfSome}
use Rattle.ecma_modules.specs.declared.calls.At.{At}
use Rattle.ecma_modules.specs.declared.known.Known.{Known}
use Rattle.ecma_module_table.specs.declared.part.Part.{Part}
use Rattle.ecma_module_table.specs.declared.part.Part.TheVariants as part
use Rattle.ecma_module_table.specs.declared.rows.Told.{Told}
use Rattle.ecma_module_table.specs.declared.stage.Change.{Change}
use Rattle.ecma_module_table.specs.declared.stage.Change.TheVariants as change
use Rattle.ecma_module_table.specs.declared.stage.Move.{Move}
use Rattle.ecma_module_table.specs.declared.stage.Move.TheVariants.{To}
use Rattle.ecma_module_table.specs.declared.stage.Seen.{Seen}
use Rattle.ecma_module_table.specs.declared.stage.Stage.{Stage}
use Rattle.ecma_module_table.specs.declared.stage.Stage.TheVariants as stage
use Rattle.ecma_module_table.specs.declared.variables.VariableStage.{VariableStage}
use Rattle.ecma_module_table.specs.declared.variables.VariableStage.TheVariants as variable
use Rattle.ecma_module_table.specs.Table.{begun, row}
use Rattle.ecma_module_table.specs.Variables as variables
use Rattle.ecma_modules.specs.Known.{Passes, begins_call, changed, moved_by, nothing_told, quiet_stage, seen_by, stepped, stepped_behind, with_stage}

-- a token that begins nothing is of something else, or ends a statement
abbrev quiet_change : Part → Change
quiet_change part.Semi = change.Nothing
quiet_change part.Shebang = change.Nothing
quiet_change p = change.Other

one-of-two : (p : Part) → (quiet_change p ≡ change.Nothing) ⊎ (quiet_change p ≡ change.Other)
one-of-two part.Semi = inl refl
one-of-two part.Shebang = inl refl
one-of-two p = inr refl

begins-nothing : (seen : Seen) (p : Part) (s : Stage) → quiet_stage stage.Nothing p ≡ Some s → begun seen p ≡ (s, quiet_change p)
begins-nothing seen p s quiet = grind arith

-- what is known at a stage, where no declaration is exported, behind something else
abbrev other_known : Stage → Bool → Known → Known
other_known s syntax k =
    record {
      stage = s;
      statement = k.statement;
      variables = record { stage = variable.Off; name = k.variables.name; angles = k.variables.angles; level = k.variables.level; braces = k.variables.braces };
      depth = k.depth;
      tokens = k.tokens;
      imports = k.imports;
      exports = k.exports;
      last = k.last;
      before = k.before;
      is_facade = false;
      has_module_syntax = syntax;
      options = k.options;
    }

-- behind nothing that is read, by what begins with the token
abbrev behind_begun : Bool → At → Known → Stage × Change → Known × Told
behind_begun syntax at k b = stepped_behind (changed b.0 b.1 at (other_known stage.Nothing syntax k), change.Nothing) at None (other_known stage.Nothing syntax k)

from-nothing : (had_line_break syntax : Bool) (at : At) (k : Known) → stepped had_line_break at (other_known stage.Nothing syntax k) ≡ behind_begun syntax at k (begun (seen_by k had_line_break) at.part)
unfolding stepped row variables.row
from-nothing had_line_break true at k = refl
from-nothing had_line_break false at k = refl

leaves : (s : Stage) (syntax : Bool) (at : At) (k : Known) (c : Change) → (c ≡ change.Nothing) ⊎ (c ≡ change.Other) → behind_begun syntax at k (s, c) ≡ (other_known s syntax k, nothing_told)
leaves s true at k c is = ⊎_elim (λ e. rw e refl) (λ e. rw e refl) is
leaves s false at k c is = ⊎_elim (λ e. rw e refl) (λ e. rw e refl) is

nothing-passes : (had_line_break syntax : Bool) (at : At) (k : Known) (s : Stage) → quiet_stage stage.Nothing at.part ≡ Some s → stepped had_line_break at (other_known stage.Nothing syntax k) ≡ (other_known s syntax k, nothing_told)
nothing-passes had_line_break syntax at k s quiet =
    from-nothing had_line_break syntax at k
    ∙ ap (behind_begun syntax at k) (begins-nothing (seen_by k had_line_break) at.part s quiet)
    ∙ leaves s syntax at k (quiet_change at.part) (one-of-two at.part)

-- behind a dot or a number sign

member-row : (seen : Seen) (p : Part) (s : Stage) → quiet_stage stage.Member p ≡ Some s → row stage.Member seen p ≡ To stage.Nothing change.Nothing
unfolding row
member-row seen p s quiet = grind arith

to-nothing : (p : Part) (s : Stage) → quiet_stage stage.Member p ≡ Some s → s ≡ stage.Nothing
to-nothing p s quiet = grind arith

abbrev behind_row : Bool → Bool → At → Known → Move → Known × Told
behind_row had_line_break syntax at k m = stepped_behind (moved_by m (seen_by k had_line_break) at (other_known stage.Member syntax k)) at None (other_known stage.Member syntax k)

from-member : (had_line_break syntax : Bool) (at : At) (k : Known) → stepped had_line_break at (other_known stage.Member syntax k) ≡ behind_row had_line_break syntax at k (row stage.Member (seen_by k had_line_break) at.part)
unfolding stepped variables.row
from-member had_line_break syntax at k = refl

leaves-nothing : (had_line_break syntax : Bool) (at : At) (k : Known) → behind_row had_line_break syntax at k (To stage.Nothing change.Nothing) ≡ (other_known stage.Nothing syntax k, nothing_told)
leaves-nothing had_line_break true at k = refl
leaves-nothing had_line_break false at k = refl

member-passes : (had_line_break syntax : Bool) (at : At) (k : Known) (s : Stage) → quiet_stage stage.Member at.part ≡ Some s → stepped had_line_break at (other_known stage.Member syntax k) ≡ (other_known s syntax k, nothing_told)
member-passes had_line_break syntax at k s quiet =
    from-member had_line_break syntax at k
    ∙ ap (behind_row had_line_break syntax at k) (member-row (seen_by k had_line_break) at.part s quiet)
    ∙ leaves-nothing had_line_break syntax at k
    ∙ ap (λ next. (other_known next syntax k, nothing_told)) (sym (to-nothing at.part s quiet))

-- whatever is known

two-stages : (s0 s : Stage) (p : Part) → quiet_stage s0 p ≡ Some s → (s0 ≡ stage.Nothing) ⊎ (s0 ≡ stage.Member)
two-stages stage.Nothing s p quiet = inl refl
two-stages stage.Member s p quiet = inr refl
two-stages s0 s p quiet = absurd (cc quiet)

off-is : (v : VariableStage) → variables.is_off v ≡ true → v ≡ variable.Off
off-is variable.Off e = refl
off-is v e = absurd (cc e)

abbrev rebuilt : Known → Stage → VariableStage → Bool → Known
rebuilt k s v facade =
    record {
      stage = s;
      statement = k.statement;
      variables = record { stage = v; name = k.variables.name; angles = k.variables.angles; level = k.variables.level; braces = k.variables.braces };
      depth = k.depth;
      tokens = k.tokens;
      imports = k.imports;
      exports = k.exports;
      last = k.last;
      before = k.before;
      is_facade = facade;
      has_module_syntax = k.has_module_syntax;
      options = k.options;
    }

same-known : (k : Known) (s0 : Stage) → k.stage ≡ s0 → k.variables.stage ≡ variable.Off → k.is_facade ≡ false → k ≡ other_known s0 k.has_module_syntax k
same-known k s0 at_stage off other =
    ap (λ s. rebuilt k s k.variables.stage k.is_facade) at_stage
    ∙ ap (λ v. rebuilt k s0 v k.is_facade) off
    ∙ ap (λ f. rebuilt k s0 variable.Off f) other

passes-at : (k : Known) (s0 s : Stage) (p : Part) → k.stage ≡ s0 → k.variables.stage ≡ variable.Off → k.is_facade ≡ false
    → ((had_line_break : Bool) (at : At) → at.part ≡ p → stepped had_line_break at (other_known s0 k.has_module_syntax k) ≡ (other_known s k.has_module_syntax k, nothing_told))
    → ((q : Part) → begins_call s0 q ≡ false) → Passes s p k
passes-at k s0 s p at_stage off other steps calls had_line_break at is = (
  subst (λ known. stepped had_line_break at known ≡ (with_stage s known, nothing_told)) (sym (same-known k s0 at_stage off other)) (steps had_line_break at is),
  ap (λ st. begins_call st at.part) at_stage ∙ calls at.part,
)

pub quiet-passes : (k : Known) (p : Part) (s : Stage) → k.is_facade ≡ false → variables.is_off k.variables.stage ≡ true → quiet_stage k.stage p ≡ Some s → Passes s p k
quiet-passes k p s other none quiet =
    let off = off-is k.variables.stage none in
    ⊎_elim
    (λ e. passes-at k stage.Nothing s p e off other
    (λ b at is. nothing-passes b k.has_module_syntax at k s (ap (λ q. quiet_stage stage.Nothing q) is ∙ ap (λ st. quiet_stage st p) (sym e) ∙ quiet))
    (λ q. refl))
    (λ e. passes-at k stage.Member s p e off other
    (λ b at is. member-passes b k.has_module_syntax at k s (ap (λ q. quiet_stage stage.Member q) is ∙ ap (λ st. quiet_stage st p) (sym e) ∙ quiet))
    (λ q. refl))
    (two-stages k.stage s p quiet)

pub quiet-if : (k : Known) (p : Part) (next : Option Stage) → k.is_facade ≡ false → variables.is_off k.variables.stage ≡ true → next ≡ quiet_stage k.stage p → IfSome next (λ s. Passes s p k)
quiet-if k p None other none is = tt
quiet-if k p (Some s) other none is = quiet-passes k p s other none (sym is)
