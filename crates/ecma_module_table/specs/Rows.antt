-- Rows of imports
use Rattle.std.specs.Prelude.{Option, Some, None}
use Rattle.ecma_span.specs.declared.place.Span.{Span}
use Rattle.ecma_module_table.specs.declared.rows.Argument.{Argument}
use Rattle.ecma_module_table.specs.declared.rows.Import.{Import}
use Rattle.ecma_module_table.specs.declared.rows.Specifier.{Specifier}

-- what names the module: the string; else the argument of a call, or the statement
abbrev pub named_by : Option Specifier → Option Argument → Span → Span
named_by (Some specifier) argument statement = specifier.span
named_by None (Some argument) statement = argument.span
named_by None None statement = statement

abbrev pub named_at : Import → Span
named_at i = named_by i.specifier i.argument i.statement
