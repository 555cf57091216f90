-- What follows a comment, and where the comments of a gap lie.
use Rattle.std.proofs.Common.{◌≡◌, ◌≤◌, ℕ, ◌+◌, Bool, true, false, not, cond, ◌&&◌, ◌||◌, ◌==◌, List, [], ◌∷◌, ◌++◌, drop, length, replicate, Option, Some, None, refl, ap, ◌∙◌, sym, subst, eqb-true, append_assoc, arith}
use Rattle.std.specs.Prelude.{codes}
use Rattle.std.proofs.lemmas.Str.{length-le-encodes}
use Rattle.ecma_place.specs.Text.{Text, byte_len}
use Rattle.ecma_place.specs.Character.{is_white_space, is_line_terminator}
use Rattle.ecma_place.specs.declared.comment.Comment.{Comment}
use Rattle.ecma_place.proofs.MoveLemmas.{byte_len-append}
use Rattle.ecma_token.specs.declared.kind.TokenKind.{TokenKind}
use Rattle.ecma_grammar.specs.declared.gap_mode.GapMode.{GapMode}
use Rattle.ecma_grammar.specs.Comments.{marker_margin, comment_of, semicolon_follows, paired, behind_element, comments_of, collected, LieBetween, is_blank, SemicolonFollows, CommentsLieInOrder}
use Rattle.ecma_grammar.specs.Fronts.{after, next_is, line, begins_with}
use Rattle.ecma_grammar.specs.Gaps.{Element, Blank, LineComment, BlockComment, OpenComment, HtmlOpening, HtmlClosing, Marker, element_text, comment_body, block_of, is_marker, element, flag_behind, end_of, gap_cutter, gap, gap_spelling, is_inert}
use Rattle.ecma_grammar.specs.Pieces.{spelled}
use Rattle.ecma_grammar.proofs.GapLaws.{no_element}

-- What is read at white space, and what is not

semicolon_is_inert : is_inert 59 ≡ true
unfolding is_white_space is_line_terminator
semicolon_is_inert = refl

-- what is read at no white space is no white space
never_blank : (mode : GapMode) (flag : Bool) (c : ℕ) (cs : Text) (e : Element) → is_white_space c ≡ false → element mode flag (c ∷ cs) ≡ Some e → is_blank e ≡ false
never_blank mode flag c cs e white h =
    go (begins_with (codes "//") (c ∷ cs)) (begins_with (codes "/*") (c ∷ cs)) (begins_with (codes "<!--") (c ∷ cs) && not mode.type_mode) flag (begins_with (codes "-->") (c ∷ cs)) (is_marker mode.type_mode c (c ∷ cs)) (rw white at h)
  where
    is : (e d : Element) → is_blank d ≡ false → Some d ≡ Some e → is_blank e ≡ false
    is e d other same = let it : d ≡ e = cc in ap is_blank (sym it) ∙ other

    block : (o : Option Text) (text : Text) → Some (block_of o text) ≡ Some e → is_blank e ≡ false
    block None text h = is e (OpenComment text) refl h
    block (Some body) text h = is e (BlockComment body) refl h

    go : (x y z flag v w : Bool)
        → cond x (Some (LineComment (line (drop 1 cs)))) (cond y (Some (block_of (comment_body (drop 1 cs)) (drop 1 cs))) (cond z (Some (HtmlOpening (line (drop 4 (c ∷ cs))))) (cond flag (cond v (Some (HtmlClosing (line (drop 3 (c ∷ cs))))) (cond w (Some (Marker c (line (drop 6 cs)))) None)) None)))
        ≡ Some e → is_blank e ≡ false
    go true y z flag v w h = is e (LineComment (line (drop 1 cs))) refl h
    go false true z flag v w h = block (comment_body (drop 1 cs)) (drop 1 cs) h
    go false false true flag v w h = is e (HtmlOpening (line (drop 4 (c ∷ cs)))) refl h
    go false false false false v w h = cc
    go false false false true true w h = is e (HtmlClosing (line (drop 3 (c ∷ cs)))) refl h
    go false false false true false true h = is e (Marker c (line (drop 6 cs))) refl h
    go false false false true false false h = cc

blank_is_white : (mode : GapMode) (flag : Bool) (c d : ℕ) (cs : Text) → element mode flag (c ∷ cs) ≡ Some (Blank d) → is_white_space c ≡ true
blank_is_white mode flag c d cs h = go (is_white_space c) refl
  where
    go : (x : Bool) → is_white_space c ≡ x → x ≡ true
    go true e = refl
    go false e = let no : true ≡ false = never_blank mode flag c cs (Blank d) e h in cc

-- what is read at white space is white space
white_is_blank : (mode : GapMode) (flag : Bool) (c : ℕ) (cs : Text) (e : Element) → is_white_space c ≡ true → element mode flag (c ∷ cs) ≡ Some e → is_blank e ≡ true
white_is_blank mode flag c cs e white h =
    let same : Some (Blank c) ≡ Some e = rw white at h in
    let it : Blank c ≡ e = cc in
    ap is_blank (sym it)

-- no semicolon follows where a comment or a marker stands
no_semicolon : (mode : GapMode) (flag : Bool) (text : Text) (e : Element) → is_blank e ≡ false → element mode flag text ≡ Some e → semicolon_follows text ≡ false
no_semicolon mode flag [] e other h = cc
no_semicolon mode flag (c ∷ cs) e other h = go (is_white_space c) (c == 59) refl refl
  where
    go : (x y : Bool) → is_white_space c ≡ x → (c == 59) ≡ y → semicolon_follows (c ∷ cs) ≡ false
    go true y w f = let blank : is_blank e ≡ true = white_is_blank mode flag c cs e w h in cc
    go false true w f =
        let same : c ≡ 59 = eqb-true c 59 f in
        let none : element mode flag (c ∷ cs) ≡ None = ap (λ x. element mode flag (x ∷ cs)) same ∙ no_element mode flag 59 cs semicolon_is_inert in
        cc
    go false false w f = rw (w, after) f

-- where no element begins no white space stands
after_none : (mode : GapMode) (flag : Bool) (text : Text) → element mode flag text ≡ None → after is_white_space text ≡ text
after_none mode flag [] h = refl
after_none mode flag (c ∷ cs) h = go (is_white_space c) refl
  where
    go : (x : Bool) → is_white_space c ≡ x → after is_white_space (c ∷ cs) ≡ c ∷ cs
    go true e = let no : Some (Blank c) ≡ None = rw e at h in cc
    go false e = rw (e, after)

stopped : (mode : GapMode) (flag : Bool) (e : Element) (es : List Element) (text : Text) → is_blank e ≡ false
    → element mode flag (element_text e ++ (spelled (gap_cutter mode) es ++ text)) ≡ Some e → semicolon_follows (spelled (gap_cutter mode) (e ∷ es) ++ text) ≡ false
stopped mode flag e es text other h =
    ap semicolon_follows (append_assoc (element_text e) (spelled (gap_cutter mode) es) text)
    ∙ no_semicolon mode flag (element_text e ++ (spelled (gap_cutter mode) es ++ text)) e other h

pub semicolon_is_seen : SemicolonFollows
semicolon_is_seen mode flag [] text h = ap (next_is 59) (after_none mode flag text h)
semicolon_is_seen mode flag (Blank c ∷ es) text h =
    let more = semicolon_is_seen mode (flag_behind flag (Blank c)) es text h.1 in
    let white : is_white_space c ≡ true = blank_is_white mode flag c c (spelled (gap_cutter mode) es ++ text) h.0 in
    rw (white, after) more
semicolon_is_seen mode flag (LineComment line ∷ es) text h = stopped mode flag (LineComment line) es text refl h.0
semicolon_is_seen mode flag (BlockComment body ∷ es) text h = stopped mode flag (BlockComment body) es text refl h.0
semicolon_is_seen mode flag (OpenComment body ∷ es) text h = stopped mode flag (OpenComment body) es text refl h.0
semicolon_is_seen mode flag (HtmlOpening line ∷ es) text h = stopped mode flag (HtmlOpening line) es text refl h.0
semicolon_is_seen mode flag (HtmlClosing line ∷ es) text h = stopped mode flag (HtmlClosing line) es text refl h.0
semicolon_is_seen mode flag (Marker c line ∷ es) text h = stopped mode flag (Marker c line) es text refl h.0

-- Where comments lie

lie_behind : (low from high : ℕ) (cs : List (Comment × Bool)) → low ≤ from → LieBetween from high cs → LieBetween low high cs
lie_behind low from high [] h l = omega (arith, h, l)
lie_behind low from high (c ∷ more) h l = (omega (arith, h, l.0), l.1, l.2)

-- a spelling takes no fewer bytes than characters
size_at_least : (a b : Text) → length a ≤ byte_len (a ++ b)
size_at_least a b = omega (arith, length-le-encodes a, byte_len-append a b)

margin_most : (c : ℕ) → marker_margin c ≤ 3
margin_most c = go (c == 61 || c == 62)
  where
    go : (x : Bool) → cond x 3 2 ≤ 3
    go true = omega arith
    go false = omega arith

-- the comment of an element lies in it, and those behind it lie behind
element_lies : (prev : Option TokenKind) (flag : Bool) (text : Text) (n : ℕ) (e : Element) (high : ℕ) (more : List (Comment × Bool)) → LieBetween (end_of n e) high more
    → LieBetween n high (paired prev flag text (comment_of n e) ++ more)
element_lies prev flag text n (Blank c) high more l = lie_behind n (end_of n (Blank c)) high more (omega arith) l
element_lies prev flag text n (LineComment line) high more l = (omega arith, omega arith, l)
element_lies prev flag text n (BlockComment body) high more l = (omega arith, omega arith, l)
element_lies prev flag text n (OpenComment body) high more l = lie_behind n (end_of n (OpenComment body)) high more (omega arith) l
element_lies prev flag text n (HtmlOpening line) high more l = (omega arith, omega (arith, size_at_least (codes "<!--") line), l)
element_lies prev flag text n (HtmlClosing line) high more l = (omega arith, omega (arith, size_at_least (codes "-->") line), l)
element_lies prev flag text n (Marker c line) high more l = (omega arith, omega (arith, size_at_least (replicate 7 c) line, margin_most c), l)

pub comments_lie : (mode : GapMode) (prev : Option TokenKind) (flag : Bool) (n : ℕ) (es : List Element) (text : Text)
    → LieBetween n (n + byte_len (spelled (gap_cutter mode) es)) (comments_of prev flag n es text)
comments_lie mode prev flag n [] text = omega arith
comments_lie mode prev flag n (e ∷ es) text =
    let behind = comments_of prev (flag_behind flag e) (end_of n e) es (behind_element e text) in
    let whole : end_of n e + byte_len (spelled (gap_cutter mode) es) ≡ n + byte_len (spelled (gap_cutter mode) (e ∷ es)) =
    omega (arith, byte_len-append (element_text e) (spelled (gap_cutter mode) es)) in
    element_lies prev flag (behind_element e text) n e (n + byte_len (spelled (gap_cutter mode) (e ∷ es))) behind
    (subst (λ high. LieBetween (end_of n e) high behind) whole (comments_lie mode prev (flag_behind flag e) (end_of n e) es (behind_element e text)))

pub comments_lie_in_order : CommentsLieInOrder
comments_lie_in_order n mode text = go mode.collect
  where
    high : ℕ
    high = n + byte_len (gap_spelling mode text)

    go : (x : Bool) → LieBetween n high (collected x (comments_of mode.prev mode.first n (gap mode text) text))
    go true = comments_lie mode mode.prev mode.first n (gap mode text) text
    go false = omega arith
