-- A checkpoint as bytes: our own choice.
use Rattle.std.specs.Prelude.{ℕ, ◌≡◌, ◌+◌, ◌<◌, ◌^◌, ◌==◌, Bool, false, not, List, [], ◌∷◌, ◌++◌, Option, Some, None, flat_map, get_or, is_some, map, slice_index, if◌then◌else◌}
use Rattle.std.specs.Int.{w32, w64, from_le_bytes, to_le_bytes}
use Rattle.ecma_span.specs.declared.place.BytePos.{BytePos}
use Rattle.ecma_syntax.specs.declared.context.Context.{Context}
use Rattle.ecma_contexts.specs.ContextPairs.{context_at, number_of}
use Rattle.ecma_state.specs.declared.kept.Kept.{Kept}
use Rattle.ecma_state.specs.declared.kept.Seen.{Seen}
use Rattle.ecma_checkpoint.specs.Checkpoints.{CheckpointValue}
use Rattle.ecma_checkpoint.specs.declared.checkpoint.Counts.{Counts}
use Rattle.ecma_kinds.specs.KindNumbers.{kind_number}
use Rattle.ecma_stored.specs.KindsAt.{kind_at}

-- What stands in the bytes

-- the first byte of this form
abbrev pub form : ℕ
form = 1

-- a place that may not be there
abbrev pub place_in : Option BytePos → ℕ
place_in None = 0
place_in (Some p) = p.0

-- the token that was given last, which may not be there

abbrev pub kept_kind : Option Kept → ℕ
kept_kind None = 0
kept_kind (Some t) = kind_number t.kind

abbrev pub kept_low : Option Kept → ℕ
kept_low None = 0
kept_low (Some t) = t.span.lo.0

abbrev pub kept_high : Option Kept → ℕ
kept_high None = 0
kept_high (Some t) = t.span.hi.0

abbrev pub kept_flag : Option Kept → Bool
kept_flag None = false
kept_flag (Some t) = t.flag

-- numbers of 32 bits
abbrev pub numbers : CheckpointValue → List ℕ
numbers c =
    c.at.0 ∷
    c.state.start.0 ∷
    c.state.opened.0 ∷
    place_in c.reread ∷
    kept_kind c.state.seen.last ∷
    kept_low c.state.seen.last ∷
    kept_high c.state.seen.last ∷
    []

-- numbers of 64 bits
abbrev pub counts : CheckpointValue → List ℕ
counts c = c.counts.recorded ∷ c.counts.waiting ∷ c.counts.comments ∷ []

-- the flags of the code that is read, in the order in which they are declared
abbrev pub code_flags : Context → List Bool
code_flags c =
    c.ignore_error ∷
    c.«module» ∷
    c.can_be_module ∷
    c.strict ∷
    c.expr_ctx.for_loop_init ∷
    c.expr_ctx.for_await_loop_init ∷
    c.include_in_expr ∷
    c.in_async ∷
    c.in_generator ∷
    c.in_static_block ∷
    c.is_continue_allowed ∷
    c.is_break_allowed ∷
    c.in_type ∷
    c.should_not_lex_lt_or_gt_as_type ∷
    c.in_declare ∷
    c.in_cond_expr ∷
    c.will_expect_colon_for_cond ∷
    c.in_class ∷
    c.in_class_field ∷
    c.in_function ∷
    c.inside_non_arrow_function_scope ∷
    c.in_parameters ∷
    c.has_super_class ∷
    c.in_property_name ∷
    c.in_forced_jsx_context ∷
    c.allow_direct_super ∷
    c.ignore_else_clause ∷
    c.disallow_conditional_types ∷
    c.allow_using_decl ∷
    []

-- those that a lexer keeps
abbrev pub own_flags : CheckpointValue → List Bool
own_flags c =
    c.state.expr_allowed ∷
    c.state.seen.first ∷
    is_some c.state.seen.last ∷
    kept_flag c.state.seen.last ∷
    c.state.seen.flag ∷
    c.state.seen.ended ∷
    is_some c.reread ∷
    c.refused ∷
    []

abbrev pub byte_of : Bool → ℕ
byte_of flag = if flag then 1 else 0

-- the bytes of a checkpoint: those that are the same in number for each, and one for each context, the innermost first
abbrev pub head_of : CheckpointValue → List ℕ
head_of c = form ∷ (flat_map (to_le_bytes w32) (numbers c) ++ (flat_map (to_le_bytes w64) (counts c) ++ (map byte_of (own_flags c) ++ map byte_of (code_flags c.context))))

abbrev pub stored : CheckpointValue → List ℕ
stored c = head_of c ++ map number_of c.state.contexts

-- its numbers are such as a program keeps
pub record IsStorable (c : CheckpointValue) : Type 0 where
  pub numbers : (i : ℕ) → get_or (numbers c) i 0 < 2 ^ 32
  pub counts : (i : ℕ) → get_or (counts c) i 0 < 2 ^ 64

-- What bytes say that are the form of a checkpoint; other bytes say something too

abbrev pub number_at : List ℕ → ℕ → ℕ
number_at head n = from_le_bytes w32 (slice_index head n ∷ slice_index head (n + 1) ∷ slice_index head (n + 2) ∷ slice_index head (n + 3) ∷ [])

abbrev pub count_at : List ℕ → ℕ → ℕ
count_at head n =
    from_le_bytes
    w64
    (slice_index head n
    ∷ slice_index head (n + 1)
    ∷ slice_index head (n + 2)
    ∷ slice_index head (n + 3)
    ∷ slice_index head (n + 4)
    ∷ slice_index head (n + 5)
    ∷ slice_index head (n + 6)
    ∷ slice_index head (n + 7)
    ∷ [])

abbrev pub flag_at : List ℕ → ℕ → Bool
flag_at head n = not (slice_index head n == 0)

abbrev pub context_in : List ℕ → Context
context_in head =
    record {
      ignore_error = flag_at head 61;
      «module» = flag_at head 62;
      can_be_module = flag_at head 63;
      strict = flag_at head 64;
      expr_ctx = record { for_loop_init = flag_at head 65; for_await_loop_init = flag_at head 66 };
      include_in_expr = flag_at head 67;
      in_async = flag_at head 68;
      in_generator = flag_at head 69;
      in_static_block = flag_at head 70;
      is_continue_allowed = flag_at head 71;
      is_break_allowed = flag_at head 72;
      in_type = flag_at head 73;
      should_not_lex_lt_or_gt_as_type = flag_at head 74;
      in_declare = flag_at head 75;
      in_cond_expr = flag_at head 76;
      will_expect_colon_for_cond = flag_at head 77;
      in_class = flag_at head 78;
      in_class_field = flag_at head 79;
      in_function = flag_at head 80;
      inside_non_arrow_function_scope = flag_at head 81;
      in_parameters = flag_at head 82;
      has_super_class = flag_at head 83;
      in_property_name = flag_at head 84;
      in_forced_jsx_context = flag_at head 85;
      allow_direct_super = flag_at head 86;
      ignore_else_clause = flag_at head 87;
      disallow_conditional_types = flag_at head 88;
      allow_using_decl = flag_at head 89;
    }

abbrev pub reread_in : List ℕ → Option BytePos
reread_in head = if flag_at head 59 then Some (record { 0 = number_at head 13 }) else None

abbrev pub kept_in : List ℕ → Kept
kept_in head =
    record {
      kind = kind_at (number_at head 17);
      span = record { lo = record { 0 = number_at head 21 }; hi = record { 0 = number_at head 25 } };
      flag = flag_at head 56;
    }

abbrev pub seen_in : List ℕ → Seen
seen_in head =
    record {
      first = flag_at head 54;
      last = if flag_at head 55 then Some (kept_in head) else None;
      flag = flag_at head 57;
      ended = flag_at head 58;
    }

abbrev pub counts_in : List ℕ → Counts
counts_in head = record { recorded = count_at head 29; waiting = count_at head 37; comments = count_at head 45 }

abbrev pub checkpoint_in : List ℕ → List ℕ → CheckpointValue
checkpoint_in head inner =
    record {
      at = record { 0 = number_at head 1 };
      context = context_in head;
      state = record {
        contexts = map context_at inner;
        expr_allowed = flag_at head 53;
        start = record { 0 = number_at head 5 };
        opened = record { 0 = number_at head 9 };
        seen = seen_in head;
      };
      reread = reread_in head;
      counts = counts_in head;
      refused = flag_at head 60;
    }

-- Laws

-- different checkpoints have different bytes
abbrev pub CheckpointsAreToldApart : Type 0
CheckpointsAreToldApart = (a b : CheckpointValue) → IsStorable a → IsStorable b → stored a ≡ stored b → a ≡ b
