-- Gaps of which nothing is told.
use Rattle.std.proofs.Common.{◌≡◌, ℕ, Bool, true, false, List, [], ◌∷◌, Option, None, refl}
use Rattle.std.specs.List.{list_all}
use Rattle.ecma_place.specs.Text.{Text}
use Rattle.ecma_token.specs.declared.kind.TokenKind.{TokenKind}
use Rattle.ecma_scan.specs.Comments.{behind_element, collected, comments_of}
use Rattle.ecma_scan.specs.Gaps.{Element, Blank, LineComment, BlockComment, OpenComment, HtmlOpening, HtmlClosing, Marker, end_of, faults_of, flag_behind, gap}
use Rattle.ecma_laws.specs.FreeTexts.{GapIsFree, is_quiet}

quiet-faults : (collect : Bool) (n : ℕ) (es : List Element) → list_all (is_quiet collect) es ≡ true → faults_of None n es ≡ []
quiet-faults collect n [] h = refl
quiet-faults collect n (Blank c ∷ es) h = quiet-faults collect (end_of n (Blank c)) es h
quiet-faults true n (LineComment line ∷ es) h = cc
quiet-faults false n (LineComment line ∷ es) h = quiet-faults false (end_of n (LineComment line)) es h
quiet-faults true n (BlockComment body ∷ es) h = cc
quiet-faults false n (BlockComment body ∷ es) h = quiet-faults false (end_of n (BlockComment body)) es h
quiet-faults collect n (OpenComment body ∷ es) h = cc
quiet-faults collect n (HtmlOpening line ∷ es) h = cc
quiet-faults collect n (HtmlClosing line ∷ es) h = cc
quiet-faults collect n (Marker c line ∷ es) h = cc

blank-comments : (prev : Option TokenKind) (flag : Bool) (n : ℕ) (es : List Element) (text : Text) → list_all (is_quiet true) es ≡ true → comments_of prev flag n es text ≡ []
blank-comments prev flag n [] text h = refl
blank-comments prev flag n (Blank c ∷ es) text h =
    blank-comments prev (flag_behind flag (Blank c)) (end_of n (Blank c)) es (behind_element (Blank c) text) h
blank-comments prev flag n (LineComment line ∷ es) text h = cc
blank-comments prev flag n (BlockComment body ∷ es) text h = cc
blank-comments prev flag n (OpenComment body ∷ es) text h = cc
blank-comments prev flag n (HtmlOpening line ∷ es) text h = cc
blank-comments prev flag n (HtmlClosing line ∷ es) text h = cc
blank-comments prev flag n (Marker c line ∷ es) text h = cc

quiet-comments : (collect : Bool) (prev : Option TokenKind) (flag : Bool) (n : ℕ) (es : List Element) (text : Text) → list_all (is_quiet collect) es ≡ true
    → collected collect (comments_of prev flag n es text) ≡ []
quiet-comments true prev flag n es text h = blank-comments prev flag n es text h
quiet-comments false prev flag n es text h = refl

pub gap_is_free : GapIsFree
gap_is_free n mode text h =
    record {
      comments = quiet-comments mode.collect mode.prev mode.first n (gap mode text) text h;
      faults = quiet-faults mode.collect n (gap mode text) h;
    }
