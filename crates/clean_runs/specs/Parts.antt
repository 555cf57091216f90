-- A grammar made of code, template texts, a shebang and rereads, and what its readers must keep.
use Rattle.std.specs.Prelude.{ℕ, ◌==◌, Bool, true, false, ◌&&◌, ◌||◌, List, [], ◌∷◌, ◌++◌, Option, Some, None, ◌≡◌, drop, length}
use Rattle.clean_runs.specs.Grammar.{Token, Found, token, ended, faulty, Grammar, Final, WaitsWithin}

-- what may stand behind a token: behind a text what closes it, behind an opener anything (a template text may
-- follow), behind a shebang line its end, behind all else a gap
pub data Role : Type 0 where
  Text : Role
  Opener : Role
  Line : Role
  Plain : Role

abbrev pub is_text : Role → Bool
is_text Text = true
is_text Opener = false
is_text Line = false
is_text Plain = false

abbrev pub is_line : Role → Bool
is_line Line = true
is_line Text = false
is_line Opener = false
is_line Plain = false

abbrev pub may_open : Role → Bool
may_open Text = true
may_open Opener = true
may_open Line = false
may_open Plain = false

abbrev pub StartsGap : List ℕ → Type 0
StartsGap [] = Unit {0}
StartsGap (c ∷ cs) = ((c == 32) || (c == 10)) ≡ true

abbrev pub StartsLine : List ℕ → Type 0
StartsLine [] = Unit {0}
StartsLine (c ∷ cs) = (c == 10) ≡ true

abbrev pub joint : Bool → Bool → List ℕ
joint true flag = []
joint false true = 10 ∷ []
joint false false = 32 ∷ []

pub record Parts (M S K : Type 0) : Type 0 where
  pub role : K → Role
  pub is_slash : K → Bool
  -- of a mode: no token was given; Tpl is on top; the previous token is a template text, a shebang
  pub is_start : M → Bool
  pub in_text : M → Bool
  pub was_text : M → Bool
  pub was_line : M → Bool
  pub after : M → Token K → M
  pub change : S → M → M
  pub records : S → Bool
  -- gap and token where Tpl is not on top and no shebang stands
  pub code : M → List ℕ → Found K
  pub regex : M → Token K → List ℕ → Option (Token K)
  -- a back quote or ${ stands here, and is this token
  pub closes : List ℕ → Bool
  pub closing : M → List ℕ → Token K
  -- the template text here, none where it meets the end
  pub text_at : List ℕ → Option (List ℕ)
  pub text : M → List ℕ → Token K
  pub begins_shebang : List ℕ → Bool
  pub shebang : List ℕ → Token K

-- The grammar

abbrev pub tpl_found : {M S K : Type 0} → Parts M S K → M → Bool → Option (List ℕ) → List ℕ → Found K
tpl_found P m true None rest = faulty
tpl_found P m false None rest = faulty
tpl_found P m true (Some []) rest = token (P.closing m rest) rest false
tpl_found P m false (Some []) rest = token (P.text m []) rest false
tpl_found P m true (Some (c ∷ x)) rest = token (P.text m (c ∷ x)) rest false
tpl_found P m false (Some (c ∷ x)) rest = token (P.text m (c ∷ x)) rest false

abbrev pub scan_tpl : {M S K : Type 0} → Parts M S K → M → List ℕ → Found K
scan_tpl P m [] = ended false
scan_tpl P m (c ∷ cs) = tpl_found P m (P.was_text m) (P.text_at (c ∷ cs)) (c ∷ cs)

abbrev pub code_found : {M S K : Type 0} → Parts M S K → Bool → M → List ℕ → Found K
code_found P true m rest = token (P.shebang rest) rest false
code_found P false m rest = P.code m rest

abbrev pub scan_in : {M S K : Type 0} → Parts M S K → Bool → M → List ℕ → Found K
scan_in P true m rest = scan_tpl P m rest
scan_in P false m rest = code_found P (P.is_start m && P.begins_shebang rest) m rest

abbrev pub between_parts : {M S K : Type 0} → Parts M S K → Token K → Token K → List ℕ
between_parts P p u = joint (is_text (P.role p.kind) || is_text (P.role u.kind)) u.flag

abbrev pub grammar : {M S K : Type 0} → Parts M S K → Grammar M S K
grammar P =
    record {
      scan = λ m rest. scan_in P (P.in_text m) m rest;
      regex = P.regex;
      is_slash = P.is_slash;
      after = P.after;
      change = P.change;
      records = P.records;
      between = between_parts P;
    }

-- The laws of its parts

abbrev pub Follows : (List ℕ → Bool) → Role → List ℕ → Type 0
Follows closes Text tail = closes tail ≡ true
Follows closes Opener tail = Unit {0}
Follows closes Line tail = StartsLine tail
Follows closes Plain tail = StartsGap tail

-- a read gives t from its first character on; nothing waits that did not wait
pub record Again {K : Type 0} (found : Found K) (t : Token K) (here : List ℕ) (v : Bool) : Type 0 where
  pub waits : Bool
  pub is : found ≡ token t here waits
  pub within : WaitsWithin waits v

pub record Keeps {M S K : Type 0} (P : Parts M S K) (m m2 : M) : Type 0 where
  pub start : P.is_start m2 ≡ P.is_start m
  pub inside : P.in_text m2 ≡ P.in_text m
  pub behind_text : P.was_text m2 ≡ P.was_text m
  pub behind_line : P.was_line m2 ≡ P.was_line m

pub record PartLaws (M S K : Type 0) (P : Parts M S K) : Type 1 where
  -- what plain steps keep of a mode, as that its contexts are plain
  pub Plainly : M → Type 0
  pub change_plain : (m : M) (x : S) → Plainly m → Plainly (P.change x m)
  pub change_keeps : (m : M) (x : S) → Keeps P m (P.change x m)
  pub after_start : (m : M) (t : Token K) → P.is_start (P.after m t) ≡ false
  pub after_text : (m : M) (t : Token K) → P.was_text (P.after m t) ≡ is_text (P.role t.kind)
  pub after_line : (m : M) (t : Token K) → P.was_line (P.after m t) ≡ is_line (P.role t.kind)
  -- template texts
  pub text_role : (m : M) (x : List ℕ) → P.role (P.text m x).kind ≡ Text
  pub text_slash : (m : M) (x : List ℕ) → P.is_slash (P.text m x).kind ≡ false
  pub text_bytes : (m : M) (x : List ℕ) → (P.text m x).bytes ≡ x
  pub text_inside : (m : M) (x : List ℕ) → P.in_text (P.after m (P.text m x)) ≡ P.in_text m
  pub text_plain : (m : M) (x : List ℕ) → Plainly m → Plainly (P.after m (P.text m x))
  pub text_none : P.text_at [] ≡ None
  pub closes_some : P.closes [] ≡ false
  pub text_empty : (r : List ℕ) → P.text_at r ≡ Some [] → P.closes r ≡ true
  pub text_full : (r : List ℕ) (c : ℕ) (x : List ℕ) → P.text_at r ≡ Some (c ∷ x) → P.closes r ≡ false
  pub text_closed : (tail : List ℕ) → P.closes tail ≡ true → P.text_at tail ≡ Some []
  pub text_again : (r x tail : List ℕ) → P.text_at r ≡ Some x → P.closes tail ≡ true → P.text_at (x ++ tail) ≡ Some x
  pub text_behind : (r x : List ℕ) → P.text_at r ≡ Some x → P.closes (drop (length x) r) ≡ true
  -- a back quote or ${ behind them
  pub closing_role : (m : M) (r : List ℕ) → is_text (P.role (P.closing m r).kind) ≡ false
  pub closing_slash : (m : M) (r : List ℕ) → P.is_slash (P.closing m r).kind ≡ false
  pub closing_opens : (m : M) (r : List ℕ) → P.in_text (P.after m (P.closing m r)) ≡ true → may_open (P.role (P.closing m r).kind) ≡ true
  pub closing_plain : (m : M) (r : List ℕ) → P.in_text m ≡ true → Plainly m → Plainly (P.after m (P.closing m r))
  pub closing_closes : (m : M) (r tail : List ℕ) → P.closes r ≡ true → P.closes ((P.closing m r).bytes ++ tail) ≡ true
  pub closing_again : (m : M) (r tail : List ℕ) → P.closes r ≡ true → P.closing m ((P.closing m r).bytes ++ tail) ≡ P.closing m r
  -- the shebang
  pub shebang_role : (r : List ℕ) → P.role (P.shebang r).kind ≡ Line
  pub shebang_slash : (r : List ℕ) → P.is_slash (P.shebang r).kind ≡ false
  pub shebang_inside : (m : M) (r : List ℕ) → P.in_text (P.after m (P.shebang r)) ≡ P.in_text m
  pub shebang_plain : (m : M) (r : List ℕ) → P.is_start m ≡ true → Plainly m → Plainly (P.after m (P.shebang r))
  pub shebang_begins : (r tail : List ℕ) → P.begins_shebang r ≡ true → StartsLine tail → P.begins_shebang ((P.shebang r).bytes ++ tail) ≡ true
  pub shebang_again : (r tail : List ℕ) → P.begins_shebang r ≡ true → StartsLine tail → P.shebang ((P.shebang r).bytes ++ tail) ≡ P.shebang r
  -- code
  pub code_end : (m : M) → P.code m [] ≡ ended false
  pub no_shebang : P.begins_shebang [] ≡ false
  pub code_role : (m : M) (r : List ℕ) (t : Token K) (here : List ℕ) (v : Bool) → Plainly m → P.in_text m ≡ false → P.code m r ≡ token t here v → is_text (P.role t.kind) ≡ false
  pub code_line : (m : M) (r : List ℕ) (t : Token K) (here : List ℕ) (v : Bool) → Plainly m → P.in_text m ≡ false → P.was_line m ≡ true → P.code m r ≡ token t here v → t.flag ≡ true
  pub code_plain : (m : M) (r : List ℕ) (t : Token K) (here : List ℕ) (v : Bool) → Plainly m → P.in_text m ≡ false → P.code m r ≡ token t here v → Plainly (P.after m t)
  pub code_opens : (m : M) (r : List ℕ) (t : Token K) (here : List ℕ) (v : Bool) → Plainly m → P.in_text m ≡ false → P.code m r ≡ token t here v → P.in_text (P.after m t) ≡ true → may_open (P.role t.kind) ≡ true
  pub code_next : (m : M) (r : List ℕ) (t : Token K) (here : List ℕ) (v : Bool) (u : Token K) (tail : List ℕ) → Plainly m → P.in_text m ≡ false → P.is_start m ≡ false → P.code m r ≡ token t here v → Final (grammar P) t here u → Follows P.closes (P.role u.kind) tail → Again (P.code m (joint false u.flag ++ (u.bytes ++ tail))) t (u.bytes ++ tail) v
  pub code_first : (m : M) (r : List ℕ) (t : Token K) (here : List ℕ) (v : Bool) (u : Token K) (tail : List ℕ) → Plainly m → P.in_text m ≡ false → P.is_start m ≡ true → P.code m r ≡ token t here v → Final (grammar P) t here u → Follows P.closes (P.role u.kind) tail → Again (P.code m (u.bytes ++ tail)) t (u.bytes ++ tail) v
  pub code_no_shebang : (m : M) (r : List ℕ) (t : Token K) (here : List ℕ) (v : Bool) (u : Token K) (tail : List ℕ) → Plainly m → P.in_text m ≡ false → P.code m r ≡ token t here v → Final (grammar P) t here u → Follows P.closes (P.role u.kind) tail → P.begins_shebang (u.bytes ++ tail) ≡ false
  -- rereads
  pub slash_role : (k : K) → P.is_slash k ≡ true → may_open (P.role k) ≡ false
  pub regex_slash : (m : M) (p : Token K) (here : List ℕ) (u : Token K) → P.regex m p here ≡ Some u → P.is_slash u.kind ≡ false
  pub regex_role : (m : M) (p : Token K) (here : List ℕ) (u : Token K) → P.regex m p here ≡ Some u → P.role u.kind ≡ Plain
  pub regex_flag : (m : M) (p : Token K) (here : List ℕ) (u : Token K) → P.regex m p here ≡ Some u → u.flag ≡ p.flag
  pub regex_inside : (m : M) (p : Token K) (here : List ℕ) (u : Token K) → P.regex m p here ≡ Some u → P.in_text (P.after m u) ≡ P.in_text m
  pub regex_plain : (m : M) (p : Token K) (here : List ℕ) (u : Token K) → P.regex m p here ≡ Some u → Plainly m → Plainly (P.after m u)
  pub regex_again : (m : M) (p : Token K) (here : List ℕ) (u : Token K) (tail : List ℕ) → P.regex m p here ≡ Some u → StartsGap tail → P.regex m p (u.bytes ++ tail) ≡ Some u
