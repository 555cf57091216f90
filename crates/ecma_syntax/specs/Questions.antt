-- What a text in a language may hold: a row for each question, with its answers for ECMAScript and for TypeScript.
use Rattle.std.specs.Prelude.{Bool, true, false, not}
use Rattle.ecma_syntax.specs.declared.settings.Syntax.{Syntax}
use Rattle.ecma_syntax.specs.declared.settings.Syntax.TheVariants.{Es, Typescript}

abbrev pub auto_accessors : Syntax → Bool
auto_accessors (Es es) = es.auto_accessors
auto_accessors (Typescript ts) = true

abbrev pub import_attributes : Syntax → Bool
import_attributes (Es es) = es.import_attributes
import_attributes (Typescript ts) = true

abbrev pub decorators_before_export : Syntax → Bool
decorators_before_export (Es es) = es.decorators_before_export
decorators_before_export (Typescript ts) = true

abbrev pub allow_super_outside_method : Syntax → Bool
allow_super_outside_method (Es es) = es.allow_super_outside_method
allow_super_outside_method (Typescript ts) = true

abbrev pub explicit_resource_management : Syntax → Bool
explicit_resource_management (Es es) = es.explicit_resource_management
explicit_resource_management (Typescript ts) = true

abbrev pub fn_bind : Syntax → Bool
fn_bind (Es es) = es.fn_bind
fn_bind (Typescript ts) = false

abbrev pub export_default_from : Syntax → Bool
export_default_from (Es es) = es.export_default_from
export_default_from (Typescript ts) = false

abbrev pub allow_return_outside_function : Syntax → Bool
allow_return_outside_function (Es es) = es.allow_return_outside_function
allow_return_outside_function (Typescript ts) = false

abbrev pub jsx : Syntax → Bool
jsx (Es es) = es.jsx
jsx (Typescript ts) = ts.tsx

abbrev pub decorators : Syntax → Bool
decorators (Es es) = es.decorators
decorators (Typescript ts) = ts.decorators

abbrev pub typescript : Syntax → Bool
typescript (Es es) = false
typescript (Typescript ts) = true

abbrev pub dts : Syntax → Bool
dts (Es es) = false
dts (Typescript ts) = ts.dts

abbrev pub disallow_ambiguous_jsx_like : Syntax → Bool
disallow_ambiguous_jsx_like (Es es) = false
disallow_ambiguous_jsx_like (Typescript ts) = ts.disallow_ambiguous_jsx_like

abbrev pub early_errors : Syntax → Bool
early_errors (Es es) = true
early_errors (Typescript ts) = not ts.no_early_errors
