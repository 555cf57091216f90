-- Comments of which none is collected, in gaps of which nothing is told but the flag.
use Rattle.std.proofs.Common.{◌≡◌, ℕ, ◌+◌, ◌≤◌, ◌<◌, Bool, true, false, cond, List, ◌∷◌, [], length, refl, sym, ap, subst, ◌∙◌, Option, Some, None, arith, ⊎_elim, drop, eqb-true, ◌==◌}
use Rattle.std.proofs.Math.Bool.{and-false}
use Rattle.std.proofs.lemmas.Bool.{and_parts, or_parts}
use Rattle.std.specs.Prelude.{◌||◌, ◌&&◌, IfSome, IsTrue, codes, is_some, option_map, slice_get, unwrap_or}
use Rattle.std.specs.List.{list_any, prefix_len, take_while}
use Rattle.ecma_place.specs.Text.{Text}
use Rattle.ecma_place.specs.Character.{is_white_space, is_line_terminator}
use Rattle.ecma_place.specs.Cursor.{Cursor, ascii_of, rest, place, passed}
use Rattle.ecma_grammar.specs.Bars.{common_cutter, common_element}
use Rattle.ecma_grammar.specs.Comments.{collected}
use Rattle.ecma_grammar.specs.Fronts.{begins_with, line, next_passes}
use Rattle.ecma_grammar.specs.Gaps.{Element, Blank, LineComment, BlockComment, OpenComment, HtmlOpening, HtmlClosing, Marker, block_of, body_before, comment_body, element, element_text, faults_of, gap, gap_cutter}
use Rattle.ecma_grammar.specs.Pieces.{pieces, spelled}
use Rattle.ecma_grammar.specs.declared.gap_mode.GapMode.{GapMode}
use Rattle.ecma_gap.specs.BlankGaps.{ArePassed, IsBlankGap, IsTold, PassesComment, PassesNone, PassesOpenComment, blank_text, is_comment, may_begin, told_of}
use Rattle.ecma_gap.specs.declared.blank_gap.BlankGap.{BlankGap}
use Rattle.ecma_gap.specs.GapRecords.{GapSoFarView, next_text, nothing_read, with_element}
use Rattle.ecma_gap.proofs.BlankGapLemmas.{Tells, if-told, none-next, told-parts}
use Rattle.ecma_gap.proofs.BodyLemmas.{body-ended}
use Rattle.ecma_gap.proofs.ElementLemmas.{block-closed, block-flag, flag-stays, line-moved, open-length, two-moves}
use Rattle.ecma_gap.proofs.NextElements.{common-block, common-line, common-none}
use Rattle.ecma_grammar.proofs.Fronts.{length-take_while}
use Rattle.ecma_grammar.proofs.SignLemmas.{rest-behind, signs-within}
use Rattle.ecma_gap.proofs.BarsLemmas.{spelled-same}
use Rattle.ecma_gap.proofs.GapSoFarLemmas.{common-reads, ended-at, gap-reads, next-smaller, whole, whole-ended, whole-is, whole-step, white-passed, white-stops}

-- One comment

or-same : (w s b : Bool) (p q r x : Option Element) (e : Element) → cond w p (cond s q (cond b r None)) ≡ Some e → cond w p (cond s q (cond b r x)) ≡ Some e
or-same true s b p q r x e h = h
or-same false true b p q r x e h = h
or-same false false true p q r x e h = h
or-same false false false p q r x e h = cc

-- what is common to all modes is an element in each
common-is : (mode : GapMode) (flag : Bool) (text : Text) (e : Element) → common_element text ≡ Some e → element mode flag text ≡ Some e
common-is mode flag [] e h = cc
common-is mode flag (c ∷ cs) e h = or-same (is_white_space c) (begins_with (codes "//") (c ∷ cs)) (begins_with (codes "/*") (c ∷ cs)) _ _ _ _ e h

not-collected : {A : Type 0} (b : Bool) (xs : List A) → b ≡ false → collected b xs ≡ []
not-collected b xs e = rw e refl

-- a comment that is not collected tells its line terminator alone
comment-said : (mode : GapMode) (n : ℕ) (text : Text) (flag terminator : Bool) (e : Element) → mode.collect ≡ false → is_comment e ≡ true
    → terminator ≡ list_any is_line_terminator (element_text e) → nothing_read (flag || terminator) ≡ with_element mode n text e (nothing_read flag)
comment-said mode n text flag terminator (LineComment line) off is holds =
    ap (λ b. nothing_read (flag || b)) holds
    ∙ ap (λ cs. let view : GapSoFarView = record { flag = flag || list_any is_line_terminator (element_text (LineComment line)); pending = None; comments = cs; faults = [] } in view)
    (sym (not-collected mode.collect _ off))
comment-said mode n text flag terminator (BlockComment body) off is holds =
    ap (λ b. nothing_read (flag || b)) holds
    ∙ ap (λ cs. let view : GapSoFarView = record { flag = flag || list_any is_line_terminator (element_text (BlockComment body)); pending = None; comments = cs; faults = [] } in view)
    (sym (not-collected mode.collect _ off))
comment-said mode n text flag terminator (Blank c) off is holds = cc
comment-said mode n text flag terminator (OpenComment body) off is holds = cc
comment-said mode n text flag terminator (HtmlOpening line) off is holds = cc
comment-said mode n text flag terminator (HtmlClosing line) off is holds = cc
comment-said mode n text flag terminator (Marker c line) off is holds = cc

-- what is found from a cursor on, where nothing but the flag was read before it, is what is found from another on: of all
-- elements, and of those that are common to all modes
pub record SameFrom (flag : Bool) (old : Cursor) (told : Bool) (now : Cursor) : Type 0 where
  pub same : (mode : GapMode) → mode.collect ≡ false
      → whole (gap_cutter mode) (λ f. f) mode now (nothing_read told) ≡ whole (gap_cutter mode) (λ f. f) mode old (nothing_read flag)
  pub common : (mode : GapMode) → mode.collect ≡ false
      → whole common_cutter (λ f. tt) mode now (nothing_read told) ≡ whole common_cutter (λ f. tt) mode old (nothing_read flag)

pub same-start : (flag : Bool) (old : Cursor) → SameFrom flag old flag old
same-start flag old = record { same = λ mode off. refl; common = λ mode off. refl }

pub same-comment : (flag told terminator : Bool) (old now next : Cursor) → SameFrom flag old told now → PassesComment now next terminator → SameFrom flag old (told || terminator) next
same-comment flag told terminator old now next from p = record {
  same = λ mode off.
      whole-step (gap_cutter mode) (λ f. f) (gap-reads mode) mode now next (nothing_read told) (nothing_read (told || terminator)) p.comment
      (common-is mode told (rest now) p.comment p.stands) p.moved (comment-said mode (place now) (rest now) told terminator p.comment off p.ends p.holds)
      ∙ from.same mode off;
  common = λ mode off.
      whole-step common_cutter (λ f. tt) common-reads mode now next (nothing_read told) (nothing_read (told || terminator)) p.comment
      p.stands p.moved (comment-said mode (place now) (rest now) told terminator p.comment off p.ends p.holds)
      ∙ from.common mode off;
}

pub same-white : (flag told terminator : Bool) (old now next : Cursor) → SameFrom flag old told now → next ≡ passed (prefix_len is_white_space (rest now)) now
    → terminator ≡ list_any is_line_terminator (take_while is_white_space (rest now)) → SameFrom flag old (told || terminator) next
same-white flag told terminator old now next from moved holds = record {
  same = λ mode off. white-passed (gap_cutter mode) (λ f. f) (gap-reads mode) mode now next (nothing_read told) terminator moved holds ∙ from.same mode off;
  common = λ mode off. white-passed common_cutter (λ f. tt) common-reads mode now next (nothing_read told) terminator moved holds ∙ from.common mode off;
}

pub comment-shorter : (now next : Cursor) (terminator : Bool) → PassesComment now next terminator → length (rest next) < length (rest now)
comment-shorter now next terminator p =
    let moved : next ≡ passed (length (next_text (common_element (rest now)))) now = p.moved ∙ ap (λ o. passed (length (next_text o)) now) (sym p.stands) in
    let less = next-smaller common_cutter (λ flag. tt) common-reads false now next true moved (ap is_some (sym p.stands)) in
    omega (arith, less)

-- Where the comments end

are-passed : (mode : GapMode) (flag told : Bool) (old now : Cursor) → whole (gap_cutter mode) (λ f. f) mode now (nothing_read told) ≡ whole (gap_cutter mode) (λ f. f) mode old (nothing_read flag)
    → element mode told (rest now) ≡ None → ArePassed mode flag old now told
are-passed mode flag told old now from none =
    let same = from ∙ whole-is (gap_cutter mode) (λ f. f) mode old (nothing_read flag) in
    let ended = ended-at mode now (nothing_read told) _ _ same (whole-ended (gap_cutter mode) (λ f. f) mode now (nothing_read told) none) in
    record { line_break = sym ended.flag; faults = sym ended.faults; moved = sym ended.ends }

-- what is told there
abbrev TellsPassed : Bool → Cursor → Cursor → BlankGap → Type 0
TellsPassed flag old now gap = (slice_get (rest now) 0 ≡ Some gap.next) × ((mode : GapMode) → mode.collect ≡ false → ArePassed mode flag old now gap.line_break)

tells-passed : (flag told : Bool) (old now : Cursor) → SameFrom flag old told now → next_passes is_white_space (rest now) ≡ false → IfSome (told_of told (rest now)) (TellsPassed flag old now)
tells-passed flag told old now from white =
    if-told (told_of told (rest now)) (Tells told (rest now)) (TellsPassed flag old now) (told-parts told (rest now))
    (λ gap t. (
      t.first,
      λ mode off. subst (ArePassed mode flag old now) t.line_break (are-passed mode flag told old now (from.same mode off) (none-next mode told (rest now) gap.next t.first white t.none)),
    ))

none-told : (told : Bool) → told_of told [] ≡ None
none-told true = refl
none-told false = refl

pub told-passed : (flag told : Bool) (old now next : Cursor) (o : Option BlankGap) → SameFrom flag old told now → next_passes is_white_space (rest now) ≡ false
    → PassesNone now next → o ≡ told_of told (rest next) → IfSome o (TellsPassed flag old next)
told-passed flag told old now next o from white stops is =
    ⊎_elim
    (λ (stays : (next ≡ now) × (common_element (rest now) ≡ None)).
    let same : next ≡ now = stays.0 in
    let it : told_of told (rest next) ≡ o = sym is in
    subst (λ (c : Cursor). IfSome o (TellsPassed flag old c)) (sym same)
    (subst (λ (x : Option BlankGap). IfSome x (TellsPassed flag old now)) (ap (λ (c : Cursor). told_of told (rest c)) (sym same) ∙ it) (tells-passed flag told old now from white)))
    (λ (held : PassesOpenComment now next).
    let none : None ≡ o = sym (none-told told) ∙ ap (told_of told) (sym held.at_end) ∙ sym is in
    subst (λ (x : Option BlankGap). IfSome x (TellsPassed flag old next)) none tt)
    stops

-- The gap, which white space begins

pub blank-passed : (mode : GapMode) (first terminator told : Bool) (old mid new : Cursor) → mid ≡ passed (prefix_len is_white_space (rest old)) old
    → terminator ≡ list_any is_line_terminator (take_while is_white_space (rest old)) → ArePassed mode (first || terminator) mid new told
    → mode.first ≡ first → mode.template ≡ false → mode.keeps_space ≡ false → mode.collect ≡ false → IsBlankGap mode old new told
blank-passed mode first terminator told old mid new moved holds p is template keeps off =
    let cutter = gap_cutter mode in
    let r = nothing_read first in
    let same =
    sym (whole-is cutter (λ f. f) mode mid (nothing_read (first || terminator)))
    ∙ white-passed cutter (λ f. f) (gap-reads mode) mode old mid r terminator moved holds ∙ whole-is cutter (λ f. f) mode old r in
    let all : gap mode (rest old) ≡ pieces cutter first (rest old) = rw (template, keeps) (ap (λ b. pieces cutter b (rest old)) is) in
    record {
      line_break =
          ap (λ es. mode.first || list_any is_line_terminator (spelled cutter es)) all
          ∙ ap (λ b. b || list_any is_line_terminator (spelled cutter (pieces cutter first (rest old)))) is
          ∙ sym (ap (λ w. w.found.line_break) same) ∙ p.line_break;
      comments = not-collected mode.collect _ off;
      faults = ap (faults_of None (place old)) all ∙ sym (ap (λ w. w.found.faults) same) ∙ p.faults;
      moved = p.moved ∙ ap (λ w. w.ends) same ∙ ap (λ es. passed (length (spelled cutter es)) old) (sym all);
    }

pub told-behind : (first terminator : Bool) (old mid new : Cursor) (o : Option BlankGap) → mid ≡ passed (prefix_len is_white_space (rest old)) old
    → terminator ≡ list_any is_line_terminator (take_while is_white_space (rest old)) → IfSome o (TellsPassed (first || terminator) mid new)
    → IfSome o (IsTold first false old new)
told-behind first terminator old mid new o moved holds told =
    if-told o (TellsPassed (first || terminator) mid new) (IsTold first false old new) told
    (λ gap t. (t.0, λ mode is template keeps off. blank-passed mode first terminator gap.line_break old mid new moved holds (t.1 mode off) is template keeps off))

-- What is answered, by the white space and comments from a cursor on

-- a mode that collects no comments: the elements common to all modes are the same in each
abbrev any_mode : GapMode
any_mode = record { first = false; type_mode = false; keeps_space = false; template = false; prev = None; collect = false }

-- where white space and comments that are not collected end, before which the flag stands or not
record BlankEnds (flag : Bool) (old : Cursor) (told : Bool) (now : Cursor) : Type 0 where
  pub line_break : told ≡ (flag || list_any is_line_terminator (blank_text false (rest old)))
  pub moved : now ≡ passed (length (blank_text false (rest old))) old

blank-ends : (flag : Bool) (old now : Cursor) (r : GapSoFarView) → whole common_cutter (λ f. tt) any_mode now r ≡ whole common_cutter (λ f. tt) any_mode old (nothing_read flag)
    → common_element (rest now) ≡ None → BlankEnds flag old r.flag now
blank-ends flag old now r from none =
    let same = from ∙ whole-is common_cutter (λ f. tt) any_mode old (nothing_read flag) in
    let ended = ended-at any_mode now r _ _ same (whole-ended common_cutter (λ f. tt) any_mode now r none) in
    let text = spelled-same any_mode (pieces common_cutter tt (rest old)) in
    record {
      line_break = ended.flag ∙ ap (λ t. flag || list_any is_line_terminator t) text;
      moved = sym ended.ends ∙ ap (λ t. passed (length t) old) text;
    }

-- what is told behind them
abbrev answer_of : Bool → Bool → Cursor → Option BlankGap
answer_of flag collect old = told_of (flag || list_any is_line_terminator (blank_text collect (rest old))) (drop (length (blank_text collect (rest old))) (rest old))

ends-told : (flag told : Bool) (old now : Cursor) (o : Option BlankGap) → BlankEnds flag old told now → o ≡ told_of told (rest now) → o ≡ answer_of flag false old
ends-told flag told old now o ends is = is ∙ ap (λ b. told_of b (rest now)) ends.line_break ∙ ap (told_of _) (rest-behind old now _ ends.moved)

pub answer-passed : (flag told : Bool) (old now next : Cursor) (o : Option BlankGap) → SameFrom flag old told now → PassesNone now next → o ≡ told_of told (rest next)
    → o ≡ answer_of flag false old
answer-passed flag told old now next o from stops is =
    ⊎_elim
    (λ (stays : (next ≡ now) × (common_element (rest now) ≡ None)).
    ends-told flag told old now o (blank-ends flag old now (nothing_read told) (from.common any_mode refl) stays.1)
    (is ∙ ap (λ (c : Cursor). told_of told (rest c)) stays.0))
    (λ (held : PassesOpenComment now next).
    let it = OpenComment held.body in
    let r = with_element any_mode (place now) (rest now) it (nothing_read told) in
    let step = whole-step common_cutter (λ f. tt) common-reads any_mode now next (nothing_read told) r it held.stands held.moved refl in
    let ends = blank-ends flag old next r (step ∙ from.common any_mode refl) (ap common_element held.at_end) in
    ends-told flag r.flag old next o ends (is ∙ ap (told_of told) held.at_end ∙ none-told told ∙ sym (none-told r.flag) ∙ ap (told_of r.flag) (sym held.at_end)))
    stops

-- behind the white space that begins the gap

pub answer-white : (first terminator : Bool) (old mid : Cursor) (o : Option BlankGap) → mid ≡ passed (prefix_len is_white_space (rest old)) old
    → terminator ≡ list_any is_line_terminator (take_while is_white_space (rest old)) → o ≡ told_of (first || terminator) (rest mid) → o ≡ answer_of first true old
answer-white first terminator old mid o moved holds is =
    is ∙ ap (λ b. told_of (first || b) (rest mid)) holds
    ∙ ap (told_of _) (rest-behind old mid _ moved ∙ ap (λ n. drop n (rest old)) (sym (length-take_while is_white_space (rest old))))

pub answer-behind : (first terminator : Bool) (old mid : Cursor) (o : Option BlankGap) → mid ≡ passed (prefix_len is_white_space (rest old)) old
    → terminator ≡ list_any is_line_terminator (take_while is_white_space (rest old)) → o ≡ answer_of (first || terminator) false mid → o ≡ answer_of first false old
answer-behind first terminator old mid o moved holds is =
    let same =
    sym (whole-is common_cutter (λ f. tt) any_mode mid (nothing_read (first || terminator)))
    ∙ white-passed common_cutter (λ f. tt) common-reads any_mode old mid (nothing_read first) terminator moved holds
    ∙ whole-is common_cutter (λ f. tt) any_mode old (nothing_read first) in
    let there = spelled-same any_mode (pieces common_cutter tt (rest mid)) in
    let here = spelled-same any_mode (pieces common_cutter tt (rest old)) in
    let flags =
    ap (λ t. (first || terminator) || list_any is_line_terminator t) (sym there) ∙ ap (λ w. w.found.line_break) same
    ∙ ap (λ t. first || list_any is_line_terminator t) here in
    let ends =
    ap (λ t. passed (length t) mid) (sym there) ∙ ap (λ w. w.ends) same ∙ ap (λ t. passed (length t) old) here in
    is ∙ ap (λ b. told_of b (drop (length (blank_text false (rest mid))) (rest mid))) flags
    ∙ ap (told_of _) (sym (rest-behind mid _ _ refl) ∙ ap (λ (c : Cursor). rest c) ends ∙ rest-behind old _ _ refl)

pub answer-ended : (first terminator : Bool) (old mid : Cursor) (o : Option BlankGap) → mid ≡ passed (prefix_len is_white_space (rest old)) old
    → terminator ≡ list_any is_line_terminator (take_while is_white_space (rest old)) → common_element (rest mid) ≡ None → o ≡ told_of (first || terminator) (rest mid)
    → o ≡ answer_of first false old
answer-ended first terminator old mid o moved holds none is =
    ends-told first (first || terminator) old mid o
    (blank-ends first old mid (nothing_read (first || terminator)) (white-passed common_cutter (λ f. tt) common-reads any_mode old mid (nothing_read first) terminator moved holds) none) is

-- where no comment begins behind the white space

-- where something is told, none begins
told-no-comment : (flag : Bool) (text : Text) → next_passes is_white_space text ≡ false → is_some (told_of flag text) ≡ true → common_element text ≡ None
told-no-comment flag text white some = go (may_begin flag text) refl some
  where
    go : (b : Bool) → may_begin flag text ≡ b
        → is_some (cond b None (option_map (λ c. let gap : BlankGap = record { line_break = flag; next = c } in gap) (ascii_of (slice_get text 0)))) ≡ true
        → common_element text ≡ None
    go true e some = cc
    go false e some =
        let slashes = or_parts _ _ (or_parts _ _ (or_parts _ _ e).0).0 in
        common-none text white slashes.0 slashes.1

-- nor where no slash stands
slash-first : (more text : Text) → (slice_get text 0 ≡ Some 47 → ⊥) → begins_with (47 ∷ more) text ≡ false
slash-first more [] other = refl
slash-first more (c ∷ cs) other = go (c == 47) refl
  where
    go : (b : Bool) → (c == 47) ≡ b → (b && begins_with more cs) ≡ false
    go true e = absurd (other (ap Some (eqb-true c 47 e)))
    go false e = refl

pub answer-told : (first terminator collect : Bool) (old mid : Cursor) (o : Option BlankGap) → mid ≡ passed (prefix_len is_white_space (rest old)) old
    → terminator ≡ list_any is_line_terminator (take_while is_white_space (rest old)) → o ≡ told_of (first || terminator) (rest mid) → is_some o ≡ true
    → o ≡ answer_of first collect old
answer-told first terminator true old mid o moved holds is some = answer-white first terminator old mid o moved holds is
answer-told first terminator false old mid o moved holds is some =
    answer-ended first terminator old mid o moved holds
    (told-no-comment (first || terminator) (rest mid) (white-stops old mid moved) (ap is_some (sym is) ∙ some)) is

pub answer-apart : (first terminator slash : Bool) (old mid : Cursor) (o : Option BlankGap) → mid ≡ passed (prefix_len is_white_space (rest old)) old
    → terminator ≡ list_any is_line_terminator (take_while is_white_space (rest old)) → (slice_get (rest mid) 0 ≡ Some 47 → IsTrue slash) → slash ≡ false
    → o ≡ told_of (first || terminator) (rest mid) → o ≡ answer_of first false old
answer-apart first terminator slash old mid o moved holds seen off is =
    let other : slice_get (rest mid) 0 ≡ Some 47 → ⊥ = λ e. let there = seen e in cc in
    answer-ended first terminator old mid o moved holds
    (common-none (rest mid) (white-stops old mid moved) (slash-first (codes "/") (rest mid) other) (slash-first (codes "*") (rest mid) other)) is

-- Somewhere ahead

abbrev Ahead : Cursor → Cursor → Type 0
Ahead old now = (n : ℕ) × (now ≡ passed n old)

pub ahead-none : (c : Cursor) → Ahead c c
ahead-none c = (0, ap (λ (n : ℕ). let moved : Cursor = record { start = c.start; text = c.text; at = n } in moved) (let same : c.at ≡ c.at + 0 = omega arith in same))

pub ahead-more : (old mid now : Cursor) → Ahead old mid → Ahead mid now → Ahead old now
ahead-more old mid now (m, a) (n, b) = (m + n, two-moves old mid now m n (m + n) a b refl)

-- One comment, as it is passed

slashes-plain : list_any is_line_terminator (codes "//") ≡ false
unfolding is_line_terminator
slashes-plain = refl

pub line-passes : (old behind new : Cursor) → begins_with (codes "//") (rest old) ≡ true → next_passes is_white_space (rest old) ≡ false
    → behind ≡ passed 2 old → new ≡ passed (length (line (rest behind))) behind → PassesComment old new false
line-passes old behind new h white b n = record {
  comment = LineComment (line (drop 2 (rest old)));
  stands = common-line (rest old) white h;
  ends = refl;
  holds = flag-stays false (codes "//") (drop 2 (rest old)) slashes-plain;
  moved = line-moved (codes "//") old behind new b n;
}

not-slashes : (text : Text) → begins_with (codes "/*") text ≡ true → begins_with (codes "//") text ≡ false
not-slashes [] h = cc
not-slashes (c ∷ []) h = and-false (c == 47)
not-slashes (c ∷ d ∷ ds) h =
    let star : (d == 42) ≡ true = (and_parts (d == 42) true (and_parts (c == 47) _ h).1).0 in
    let same : d ≡ 42 = eqb-true d 42 star in
    ap (λ x. (c == 47) && ((x == 47) && true)) same ∙ and-false (c == 47)

closed : (o : Option Text) (text : Text) → is_some o ≡ true → is_comment (block_of o text) ≡ true
closed (Some body) text e = refl
closed None text e = cc

left-none : (xs : Text) → drop (length xs) xs ≡ []
left-none [] = refl
left-none (x ∷ xs) = left-none xs

-- whether the comment ends, by what stands behind its body
is_ended : (behind there : Cursor) (b x : Bool) → there ≡ passed (length (body_before (rest behind))) behind → b ≡ begins_with (codes "*/") (rest there) → b ≡ x
    → is_some (comment_body (rest behind)) ≡ x
is_ended behind there b x moved seen e = sym (body-ended behind there moved) ∙ sym seen ∙ e

pub block-passes : (old behind there new : Cursor) (terminator b : Bool) → begins_with (codes "/*") (rest old) ≡ true → next_passes is_white_space (rest old) ≡ false
    → behind ≡ passed 2 old → there ≡ passed (length (body_before (rest behind))) behind → terminator ≡ list_any is_line_terminator (body_before (rest behind))
    → b ≡ begins_with (codes "*/") (rest there) → b ≡ true → new ≡ passed 2 there → PassesComment old new terminator
block-passes old behind there new terminator b h white m t holds seen e n =
    let d = rest behind in
    let some : is_some (comment_body d) ≡ true = is_ended behind there b true t seen e in
    record {
      comment = block_of (comment_body d) d;
      stands = common-block (rest old) white (not-slashes (rest old) h) h ∙ ap (λ x. Some (block_of (comment_body x) x)) (sym (rest-behind old behind 2 m));
      ends = closed (comment_body d) d some;
      holds = holds ∙ sym (block-flag (comment_body d) d);
      moved = (block-closed old behind there new h m t some n).moved;
    }

pub block-open : (old behind there : Cursor) (b : Bool) → begins_with (codes "/*") (rest old) ≡ true → next_passes is_white_space (rest old) ≡ false
    → behind ≡ passed 2 old → there ≡ passed (length (body_before (rest behind))) behind → b ≡ begins_with (codes "*/") (rest there) → b ≡ false → PassesOpenComment old there
block-open old behind there b h white m t seen e =
    let d = rest behind in
    let none : is_some (comment_body d) ≡ false = is_ended behind there b false t seen e in
    let is : block_of (comment_body d) d ≡ OpenComment d = go (comment_body d) d none in
    record {
      body = d;
      stands =
          common-block (rest old) white (not-slashes (rest old) h) h ∙ ap (λ x. Some (block_of (comment_body x) x)) (sym (rest-behind old behind 2 m))
          ∙ ap Some is;
      moved = two-moves old behind there 2 _ _ m t (sym (ap (λ x. length (element_text x)) (sym is) ∙ open-length (comment_body d) d none));
      at_end = rest-behind behind there _ t ∙ left (comment_body d) none;
    }
  where
    go : (o : Option Text) (d : Text) → is_some o ≡ false → block_of o d ≡ OpenComment d
    go (Some body) d e = cc
    go None d e = refl

    left : (o : Option Text) → is_some o ≡ false → drop (length (unwrap_or o (rest behind))) (rest behind) ≡ []
    left (Some body) e = cc
    left None e = left-none (rest behind)

pub signs-there : (there : Cursor) (b : Bool) → b ≡ begins_with (codes "*/") (rest there) → b ≡ true → 2 ≤ length (rest there)
signs-there there b seen e = signs-within (codes "*/") (rest there) (sym seen ∙ e)
