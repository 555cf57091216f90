-- The settings where none are given: ECMAScript with every option off, for the fifth edition, its numbers by the crate's rule;
-- and the context in which no flag is set.
use Rattle.std.specs.Prelude.{false}
use Rattle.ecma_syntax.specs.declared.context.Context.{Context}
use Rattle.ecma_syntax.specs.declared.settings.Syntax.{Syntax}
use Rattle.ecma_syntax.specs.declared.settings.Syntax.TheVariants.{Es}
use Rattle.ecma_syntax.specs.declared.settings.EsVersion.{EsVersion}
use Rattle.ecma_syntax.specs.declared.settings.EsVersion.TheVariants.{Es5}
use Rattle.ecma_syntax.specs.declared.settings.NumberRule.{NumberRule}
use Rattle.ecma_syntax.specs.declared.settings.NumberRule.TheVariants.{Crate}

abbrev pub syntax : Syntax
syntax = Es (record {
  jsx = false;
  fn_bind = false;
  decorators = false;
  decorators_before_export = false;
  export_default_from = false;
  import_attributes = false;
  allow_super_outside_method = false;
  allow_return_outside_function = false;
  auto_accessors = false;
  explicit_resource_management = false;
})

abbrev pub version : EsVersion
version = Es5

abbrev pub numbers : NumberRule
numbers = Crate

-- no flag is set
abbrev pub no_context : Context
no_context =
    record {
      ignore_error = false;
      «module» = false;
      can_be_module = false;
      strict = false;
      expr_ctx = record { for_loop_init = false; for_await_loop_init = false };
      include_in_expr = false;
      in_async = false;
      in_generator = false;
      in_static_block = false;
      is_continue_allowed = false;
      is_break_allowed = false;
      in_type = false;
      should_not_lex_lt_or_gt_as_type = false;
      in_declare = false;
      in_cond_expr = false;
      will_expect_colon_for_cond = false;
      in_class = false;
      in_class_field = false;
      in_function = false;
      inside_non_arrow_function_scope = false;
      in_parameters = false;
      has_super_class = false;
      in_property_name = false;
      in_forced_jsx_context = false;
      allow_direct_super = false;
      ignore_else_clause = false;
      disallow_conditional_types = false;
      allow_using_decl = false;
    }
