-- What the bytes of a checkpoint say is that checkpoint.
use Rattle.std.proofs.Common.{ℕ, ◌≡◌, ◌∙◌, ◌≤◌, ◌<◌, ◌^◌, ◌==◌, Bool, true, false, not, cond, List, [], ◌∷◌, ◌++◌, Option, Some, None, arith, drop, length, map, take, refl, sym, ap}
use Rattle.std.specs.Int.{w32, from_le_bytes, to_le_bytes}
use Rattle.std.specs.Prelude.{is_some}
use Rattle.std.proofs.Math.Seq.{drop-append_seam, take-append_seam}
use Rattle.std.proofs.lemmas.List.{length-append}
use Rattle.std.proofs.lemmas.Nat.{from_le_bytes-to_le_bytes_4, from_le_bytes-to_le_bytes_8}
use Rattle.ecma_span.specs.declared.place.BytePos.{BytePos}
use Rattle.ecma_syntax.specs.declared.context.Context.{Context}
use Rattle.ecma_contexts.specs.ContextPairs.{context_at, number_of}
use Rattle.ecma_contexts.specs.Contexts.{Contexts}
use Rattle.ecma_contexts.specs.declared.token_context.TokenContext.{TokenContext}
use Rattle.ecma_contexts.specs.declared.token_context.TokenContext.TheVariants.{BraceStmt, BraceExpr, TplQuasi, ParenStmt, ParenExpr, Tpl, FnExpr, ClassExpr, JSXOpeningTag, JSXClosingTag, JSXExpr}
use Rattle.ecma_state.specs.declared.kept.Kept.{Kept}
use Rattle.ecma_checkpoint.specs.Checkpoints.{CheckpointValue}
use Rattle.ecma_kinds.specs.KindNumbers.{kind_number}
use Rattle.ecma_stored.specs.KindsAt.{kind_at}
use Rattle.ecma_stored.specs.Stored.{CheckpointsAreToldApart, IsStorable, byte_of, checkpoint_in, head_of, kept_flag, kept_high, kept_kind, kept_low, place_in, stored}
use Rattle.ecma_stored.proofs.KindLemmas.{kind_back}

flag_back : (b : Bool) → not (byte_of b == 0) ≡ b
flag_back true = refl
flag_back false = refl

context_back : (x : TokenContext) → context_at (number_of x) ≡ x
context_back BraceStmt = refl
context_back BraceExpr = refl
context_back TplQuasi = refl
context_back (ParenStmt false) = refl
context_back (ParenStmt true) = refl
context_back ParenExpr = refl
context_back Tpl = refl
context_back FnExpr = refl
context_back ClassExpr = refl
context_back JSXOpeningTag = refl
context_back JSXClosingTag = refl
context_back JSXExpr = refl

contexts_back : (xs : Contexts) → map context_at (map number_of xs) ≡ xs
contexts_back [] = refl
contexts_back (x ∷ xs) = ap (λ y. y ∷ map context_at (map number_of xs)) (context_back x) ∙ ap (λ ys. x ∷ ys) (contexts_back xs)

number_back : (n : ℕ) → n < 2 ^ 32 → from_le_bytes w32 (to_le_bytes w32 n) ≡ n
number_back = from_le_bytes-to_le_bytes_4

abbrev context_back_of : Context → Context
context_back_of c =
    record {
      ignore_error = not (byte_of c.ignore_error == 0);
      «module» = not (byte_of c.«module» == 0);
      can_be_module = not (byte_of c.can_be_module == 0);
      strict = not (byte_of c.strict == 0);
      expr_ctx = record { for_loop_init = not (byte_of c.expr_ctx.for_loop_init == 0); for_await_loop_init = not (byte_of c.expr_ctx.for_await_loop_init == 0) };
      include_in_expr = not (byte_of c.include_in_expr == 0);
      in_async = not (byte_of c.in_async == 0);
      in_generator = not (byte_of c.in_generator == 0);
      in_static_block = not (byte_of c.in_static_block == 0);
      is_continue_allowed = not (byte_of c.is_continue_allowed == 0);
      is_break_allowed = not (byte_of c.is_break_allowed == 0);
      in_type = not (byte_of c.in_type == 0);
      should_not_lex_lt_or_gt_as_type = not (byte_of c.should_not_lex_lt_or_gt_as_type == 0);
      in_declare = not (byte_of c.in_declare == 0);
      in_cond_expr = not (byte_of c.in_cond_expr == 0);
      will_expect_colon_for_cond = not (byte_of c.will_expect_colon_for_cond == 0);
      in_class = not (byte_of c.in_class == 0);
      in_class_field = not (byte_of c.in_class_field == 0);
      in_function = not (byte_of c.in_function == 0);
      inside_non_arrow_function_scope = not (byte_of c.inside_non_arrow_function_scope == 0);
      in_parameters = not (byte_of c.in_parameters == 0);
      has_super_class = not (byte_of c.has_super_class == 0);
      in_property_name = not (byte_of c.in_property_name == 0);
      in_forced_jsx_context = not (byte_of c.in_forced_jsx_context == 0);
      allow_direct_super = not (byte_of c.allow_direct_super == 0);
      ignore_else_clause = not (byte_of c.ignore_else_clause == 0);
      disallow_conditional_types = not (byte_of c.disallow_conditional_types == 0);
      allow_using_decl = not (byte_of c.allow_using_decl == 0);
    }

context_path : (c : Context) → context_back_of c ≡ c
context_path c = λ i.
    record {
      ignore_error = flag_back c.ignore_error i;
      «module» = flag_back c.«module» i;
      can_be_module = flag_back c.can_be_module i;
      strict = flag_back c.strict i;
      expr_ctx = record { for_loop_init = flag_back c.expr_ctx.for_loop_init i; for_await_loop_init = flag_back c.expr_ctx.for_await_loop_init i };
      include_in_expr = flag_back c.include_in_expr i;
      in_async = flag_back c.in_async i;
      in_generator = flag_back c.in_generator i;
      in_static_block = flag_back c.in_static_block i;
      is_continue_allowed = flag_back c.is_continue_allowed i;
      is_break_allowed = flag_back c.is_break_allowed i;
      in_type = flag_back c.in_type i;
      should_not_lex_lt_or_gt_as_type = flag_back c.should_not_lex_lt_or_gt_as_type i;
      in_declare = flag_back c.in_declare i;
      in_cond_expr = flag_back c.in_cond_expr i;
      will_expect_colon_for_cond = flag_back c.will_expect_colon_for_cond i;
      in_class = flag_back c.in_class i;
      in_class_field = flag_back c.in_class_field i;
      in_function = flag_back c.in_function i;
      inside_non_arrow_function_scope = flag_back c.inside_non_arrow_function_scope i;
      in_parameters = flag_back c.in_parameters i;
      has_super_class = flag_back c.has_super_class i;
      in_property_name = flag_back c.in_property_name i;
      in_forced_jsx_context = flag_back c.in_forced_jsx_context i;
      allow_direct_super = flag_back c.allow_direct_super i;
      ignore_else_clause = flag_back c.ignore_else_clause i;
      disallow_conditional_types = flag_back c.disallow_conditional_types i;
      allow_using_decl = flag_back c.allow_using_decl i;
    }

reread_back : (r : Option BytePos) → place_in r < 2 ^ 32
    → cond (not (byte_of (is_some r) == 0)) (Some (record { 0 = from_le_bytes w32 (to_le_bytes w32 (place_in r)) })) None ≡ r
reread_back None small = refl
reread_back (Some p) small = λ i. Some (record { 0 = number_back p.0 small i })

kept_back : (l : Option Kept) → kept_kind l < 2 ^ 32 → kept_low l < 2 ^ 32 → kept_high l < 2 ^ 32
    → (let kept : Kept = record {
      kind = kind_at (from_le_bytes w32 (to_le_bytes w32 (kept_kind l)));
      span = record { lo = record { 0 = from_le_bytes w32 (to_le_bytes w32 (kept_low l)) }; hi = record { 0 = from_le_bytes w32 (to_le_bytes w32 (kept_high l)) } };
      flag = not (byte_of (kept_flag l) == 0);
    } in cond (not (byte_of (is_some l) == 0)) (Some kept) None) ≡ l
kept_back None one two three = refl
kept_back (Some t) one two three =
    let kind = ap kind_at (number_back (kind_number t.kind) one) ∙ kind_back t.kind in
    λ i.
    Some
    (record {
      kind = kind i;
      span = record { lo = record { 0 = number_back t.span.lo.0 two i }; hi = record { 0 = number_back t.span.hi.0 three i } };
      flag = flag_back t.flag i;
    })

checkpoint_back : (c : CheckpointValue) → IsStorable c → checkpoint_in (head_of c) (map number_of c.state.contexts) ≡ c
checkpoint_back c is =
    let at : c.at.0 < 2 ^ 32 = is.numbers 0 in
    let start : c.state.start.0 < 2 ^ 32 = is.numbers 1 in
    let opened : c.state.opened.0 < 2 ^ 32 = is.numbers 2 in
    let reread = reread_back c.reread (is.numbers 3) in
    let last = kept_back c.state.seen.last (is.numbers 4) (is.numbers 5) (is.numbers 6) in
    let contexts = contexts_back c.state.contexts in
    let recorded = from_le_bytes-to_le_bytes_8 c.counts.recorded (is.counts 0) in
    let waiting = from_le_bytes-to_le_bytes_8 c.counts.waiting (is.counts 1) in
    let comments = from_le_bytes-to_le_bytes_8 c.counts.comments (is.counts 2) in
    λ i.
    record {
      at = record { 0 = number_back c.at.0 at i };
      context = context_path c.context i;
      state = record {
        contexts = contexts i;
        expr_allowed = flag_back c.state.expr_allowed i;
        start = record { 0 = number_back c.state.start.0 start i };
        opened = record { 0 = number_back c.state.opened.0 opened i };
        seen = record {
          first = flag_back c.state.seen.first i;
          last = last i;
          flag = flag_back c.state.seen.flag i;
          ended = flag_back c.state.seen.ended i;
        };
      };
      reread = reread i;
      counts = record { recorded = recorded i; waiting = waiting i; comments = comments i };
      refused = flag_back c.refused i;
    }

head_length : (c : CheckpointValue) → length (head_of c) ≡ 90
head_length c = refl

-- the bytes that are the same in number for each are those in front
pub stored_back : (c : CheckpointValue) (bytes : List ℕ) → IsStorable c → stored c ≡ bytes → checkpoint_in (take 90 bytes) (drop 90 bytes) ≡ c
stored_back c bytes is same =
    let inner = map number_of c.state.contexts in
    let front : take 90 bytes ≡ head_of c = ap (take 90) (sym same) ∙ ap (λ n. take n (head_of c ++ inner)) (sym (head_length c)) ∙ take-append_seam (head_of c) inner in
    let behind : drop 90 bytes ≡ inner = ap (drop 90) (sym same) ∙ ap (λ n. drop n (head_of c ++ inner)) (sym (head_length c)) ∙ drop-append_seam (head_of c) inner in
    ap (λ h. checkpoint_in h (drop 90 bytes)) front ∙ ap (checkpoint_in (head_of c)) behind ∙ checkpoint_back c is

pub stored_length : (c : CheckpointValue) (bytes : List ℕ) → stored c ≡ bytes → 90 ≤ length bytes
stored_length c bytes same =
    let sum = ap length (sym same) ∙ length-append (head_of c) (map number_of c.state.contexts) in
    omega (arith, sum, head_length c)

pub checkpoints_are_told_apart : CheckpointsAreToldApart
checkpoints_are_told_apart a b one two same = sym (stored_back a (stored b) one same) ∙ stored_back b (stored b) two refl
