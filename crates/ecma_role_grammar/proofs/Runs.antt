-- Runs of a track over tokens, with each slash in its role
use Rattle.std.proofs.Common.{◌≡◌, ◌++◌, ◌∙◌, subst, sym, Bool, true, false, List, [], ◌∷◌, Some, None, refl, arith}
use Rattle.ecma_token_kind.specs.declared.kind.TokenKind.{TokenKind}
use Rattle.ecma_token_kind.specs.declared.kind.TokenKind.TheVariants as kind
use Rattle.ecma_word.specs.declared.operator.BinOpToken.TheVariants as binary
use Rattle.ecma_word.specs.declared.operator.AssignOp.TheVariants as assigning
use Rattle.ecma_role_tracks.specs.Slashes.{expects_operand}
use Rattle.ecma_role_tracks.specs.Track.{TrackView, stepped, tracked}
use Rattle.ecma_role_grammar.specs.Tokens.{Role, Token, Division, RegularExpression, begins_operand, part, parts, role_of}

-- a token in its role
abbrev pub RightAt : TrackView → TokenKind → Type 0
RightAt t kind = (is_assign : Bool) (role : Role) → role_of kind is_assign ≡ Some role → expects_operand t is_assign ≡ begins_operand role

unfoldable pub Right : TrackView → List Token → Type 0
Right t [] = Unit {0}
Right t (x ∷ xs) = RightAt t x.kind × Right (stepped t (part x)) xs

pub record Run (t : TrackView) (xs : List Token) (u : TrackView) : Type 0 where
  pub ends : tracked t (parts xs) ≡ u
  pub right : Right t xs

pub stays : (t : TrackView) → Run t [] t
unfolding Right
stays t = record { ends = refl; right = tt }

pub goes : {t u v : TrackView} {x : Token} {xs : List Token} → RightAt t x.kind → stepped t (part x) ≡ u → Run u xs v → Run t (x ∷ xs) v
unfolding Right
goes {t = t} {v = v} {x = x} {xs = xs} right is run =
    let r : Run (stepped t (part x)) xs v = subst (λ w. Run w xs v) (sym is) run in
    record { ends = r.ends; right = (right, r.right) }

pub one : {t u : TrackView} {x : Token} → RightAt t x.kind → stepped t (part x) ≡ u → Run t (x ∷ []) u
one {u = u} right is = goes right is (stays u)

pub joins : {xs ys : List Token} {t u v : TrackView} → Run t xs u → Run u ys v → Run t (xs ++ ys) v
unfolding Right
joins {xs = []} {ys = ys} {v = v} first second = subst (λ w. Run w ys v) (sym first.ends) second
joins {xs = x ∷ xs} {ys = ys} {t = t} {u = u} {v = v} first second =
    let rest : Run (stepped t (part x)) xs u = record { ends = first.ends; right = first.right.1 } in
    goes first.right.0 refl (joins {xs = xs} {ys = ys} {t = stepped t (part x)} {u = u} {v = v} rest second)

-- a track that reads the first token as another one does
pub begins_alike : {t t' v : TrackView} {x : Token} {xs : List Token} → RightAt t x.kind → stepped t (part x) ≡ stepped t' (part x) → Run t' (x ∷ xs) v → Run t (x ∷ xs) v
unfolding Right
begins_alike {t' = t'} {v = v} {x = x} {xs = xs} right same run =
    let rest : Run (stepped t' (part x)) xs v = record { ends = run.ends; right = run.right.1 } in
    goes right same rest

pub reads_alike : {t t' v : TrackView} {x : Token} {xs : List Token} → ((w : Bool) → expects_operand t w ≡ expects_operand t' w) → stepped t (part x) ≡ stepped t' (part x) → Run t' (x ∷ xs) v → Run t (x ∷ xs) v
unfolding Right
reads_alike expects same run = begins_alike (λ w r is. expects w ∙ run.right.0 w r is) same run

pub lands : {t u v : TrackView} {xs : List Token} → Run t xs u → u ≡ v → Run t xs v
lands {t = t} {xs = xs} run is = subst (λ w. Run t xs w) is run

-- what is no slash is in its role, and a division where no operand is expected

abbrev pub is_regex : TokenKind → Bool
is_regex kind.Regex = true
is_regex kind = false

abbrev pub is_slash : TokenKind → Bool
is_slash kind.Regex = true
is_slash (kind.BinOp binary.Div) = true
is_slash (kind.AssignOp assigning.DivAssign) = true
is_slash kind = false

none-some : (r : Role) → None ≡ Some r → ⊥
none-some r is = grind (arith, is)

division-divides : (r : Role) → Some Division ≡ Some r → begins_operand r ≡ false
division-divides r is = grind (arith, is)

regex-begins : (r : Role) → Some RegularExpression ≡ Some r → begins_operand r ≡ true
regex-begins r is = grind (arith, is)

pub true_false : true ≡ false → ⊥
true_false is = grind (arith, is)

divides : (kind : TokenKind) (w : Bool) (r : Role) → is_regex kind ≡ false → role_of kind w ≡ Some r → begins_operand r ≡ false
divides kind.Regex w r h is = absurd (true_false h)
divides (kind.BinOp binary.Div) false r h is = division-divides r is
divides (kind.AssignOp assigning.DivAssign) true r h is = division-divides r is
divides kind w r h is = absurd (none-some r is)

no-role : (kind : TokenKind) (w : Bool) (r : Role) → is_slash kind ≡ false → role_of kind w ≡ Some r → ⊥
no-role kind.Regex w r h is = true_false h
no-role (kind.BinOp binary.Div) w r h is = true_false h
no-role (kind.AssignOp assigning.DivAssign) w r h is = true_false h
no-role kind w r h is = none-some r is

pub no_slash : (t : TrackView) (kind : TokenKind) → is_slash kind ≡ false → RightAt t kind
no_slash t kind h w r is = absurd (no-role kind w r h is)

pub right_division : (t : TrackView) (kind : TokenKind) → ((w : Bool) → expects_operand t w ≡ false) → is_regex kind ≡ false → RightAt t kind
right_division t kind none h w r is = none w ∙ sym (divides kind w r h is)

pub right_regex : (t : TrackView) → ((w : Bool) → expects_operand t w ≡ true) → RightAt t kind.Regex
right_regex t all w r is = all w ∙ sym (regex-begins r is)
