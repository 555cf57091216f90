-- The table of words as one look-up, and what follows from it.
use Rattle.std.proofs.Common.{◌≡◌, ℕ, Bool, true, false, List, [], ◌∷◌, ◌++◌, map, find, cond, refl, sym, nat_eq, arith, Option, None, Some, unwrap_or, option_map, codes, suc}
use Rattle.std.specs.List.{Contains}
use Rattle.std.specs.Option.{option_or, option_map_or, ok_or}
use Rattle.std.specs.Result.{MatchResult}
use Rattle.std.specs.Cmp.Lexicographic.{pointwise}
use Rattle.std.proofs.lemmas.Grind.{common_steps}
use Rattle.std.proofs.lemmas.List.Folds.{find-append}
use Rattle.std.proofs.lemmas.Slice.Eq.{bytes_eq-Decides}
use Rattle.ecma_span.specs.Atom.{AtomView, borrowed_atom}
use Rattle.ecma_word.specs.KnownIdent.{known_text, is_known_text, all_known, known_of}
use Rattle.ecma_word.specs.Keyword.{keyword_text, is_keyword_text, all_keywords, keyword_of}
use Rattle.ecma_word.specs.Word.{is_text, word_of, word_of_kind, word_kind, word_text, known_of_kind}
use Rattle.ecma_word.specs.Table.{table_of_words, has_text}
use Rattle.ecma_word.specs.Laws.{WordsReadBack, WordsKeepTheirText, WordsAreLookedUp}
use Rattle.ecma_word.specs.declared.keyword.Keyword.{Keyword}
use Rattle.ecma_word.specs.declared.keyword.Keyword.TheVariants as kw
use Rattle.ecma_word.specs.declared.known_ident.KnownIdent.{KnownIdent}
use Rattle.ecma_word.specs.declared.known_ident.KnownIdent.TheVariants as kn
use Rattle.ecma_word.specs.declared.word.IdentLike.{IdentLike}
use Rattle.ecma_word.specs.declared.word.IdentLike.TheVariants.{Known, Other}
use Rattle.ecma_word.specs.declared.word.Word.{Word}
use Rattle.ecma_word.specs.declared.word.Word.TheVariants as w

pub find-map : {X Y : Type 0} (p : Y → Bool) (f : X → Y) (xs : List X) → find p (map f xs) ≡ option_map f (find (λ x. p (f x)) xs)
find-map p f [] = refl
find-map p f (x ∷ xs) = grind (arith, common_steps, find-map p f xs)

-- the choice among what the three parts of the table answer
unfoldable pub chosen : Option Keyword → Bool → Bool → Bool → Option KnownIdent → IdentLike → Word
chosen a n t f b other = option_map_or w.Keyword a (cond n w.Null (cond t w.True (cond f w.False (w.Ident (option_map_or Known b other)))))

chosen-parts : (a : Option Keyword) (n t f : Bool) (b : Option KnownIdent) (other : IdentLike)
    → unwrap_or (option_or (option_or (option_map w.Keyword a) (cond n (Some w.Null) (cond t (Some w.True) (cond f (Some w.False) None)))) (option_map (λ k. w.Ident (Known k)) b)) (w.Ident other) ≡ chosen a n t f b other
unfolding chosen
chosen-parts (Some a) n t f b other = refl
chosen-parts None true t f b other = refl
chosen-parts None false true f b other = refl
chosen-parts None false false true b other = refl
chosen-parts None false false false (Some b) other = refl
chosen-parts None false false false None other = refl

-- over any lists, so that the table's own stay folded
table-chosen : (text : List ℕ) (ks : List Keyword) (ns : List KnownIdent) (other : IdentLike)
    → unwrap_or (find (has_text text) (map w.Keyword ks ++ (w.Null ∷ w.True ∷ w.False ∷ []) ++ map (λ k. w.Ident (Known k)) ns)) (w.Ident other) ≡ chosen (find (is_keyword_text text) ks) (is_text (codes "null") text) (is_text (codes "true") text) (is_text (codes "false") text) (find (is_known_text text) ns) other
table-chosen text ks ns other =
    rw (find-append (has_text text) (map w.Keyword ks ++ (w.Null ∷ w.True ∷ w.False ∷ [])) (map (λ k. w.Ident (Known k)) ns))
    (rw (find-append (has_text text) (map w.Keyword ks) (w.Null ∷ w.True ∷ w.False ∷ []))
    (rw (find-map (has_text text) w.Keyword ks)
    (rw (find-map (has_text text) (λ k. w.Ident (Known k)) ns)
    (chosen-parts _ _ _ _ _ _))))

pub words_are_looked_up : WordsAreLookedUp
unfolding chosen table_of_words keyword_of known_of
words_are_looked_up text = sym (table-chosen text all_keywords all_known (Other (borrowed_atom text)))

pub find-holds : {X : Type 0} (p : X → Bool) (xs : List X) (x : X) → find p xs ≡ Some x → p x ≡ true
find-holds p [] x h = cc
find-holds p (y ∷ ys) x h = grind (arith, common_steps, find-holds p ys x)

kept : (text : List ℕ) (o : Option Word) → ((x : Word) → o ≡ Some x → has_text text x ≡ true) → word_text (unwrap_or o (w.Ident (Other (borrowed_atom text)))) ≡ text
kept text None h = refl
kept text (Some x) h = (bytes_eq-Decides (word_text x) text).0 (h x refl)

pub words_keep_their_text : WordsKeepTheirText
words_keep_their_text text = rw (words_are_looked_up text) (kept text (find (has_text text) table_of_words) (find-holds (has_text text) table_of_words))

-- no element has a text that the list of texts lacks
find-lacking : {X : Type 0} (f : X → List ℕ) (t : List ℕ) (xs : List X) → ¬ Contains (map f xs) t → find (λ x. pointwise nat_eq (f x) t) xs ≡ None
find-lacking f t [] lacks = refl
find-lacking f t (x ∷ xs) lacks = go (pointwise nat_eq (f x) t) refl (λ here. find-lacking f t xs here)
  where
    go : (b : Bool) → pointwise nat_eq (f x) t ≡ b → (¬ Contains (map f xs) t → find (λ y. pointwise nat_eq (f y) t) xs ≡ None) → cond b (Some x) (find (λ y. pointwise nat_eq (f y) t) xs) ≡ None
    go true e rest = absurd (lacks (0, omega arith, (bytes_eq-Decides (f x) t).0 e))
    go false e rest = rest (λ c. lacks (suc c.0, omega (arith, c.1), c.2))

read_keyword : (k : Keyword) → word_of (keyword_text k) ≡ w.Keyword k
unfolding keyword_of
read_keyword kw.Await = refl
read_keyword kw.Break = refl
read_keyword kw.Case = refl
read_keyword kw.Catch = refl
read_keyword kw.Continue = refl
read_keyword kw.Debugger = refl
read_keyword kw.Default_ = refl
read_keyword kw.Do = refl
read_keyword kw.Else = refl
read_keyword kw.Finally = refl
read_keyword kw.For = refl
read_keyword kw.Function = refl
read_keyword kw.If = refl
read_keyword kw.Return = refl
read_keyword kw.Switch = refl
read_keyword kw.Throw = refl
read_keyword kw.Try = refl
read_keyword kw.Var = refl
read_keyword kw.Let = refl
read_keyword kw.Const = refl
read_keyword kw.While = refl
read_keyword kw.With = refl
read_keyword kw.New = refl
read_keyword kw.This = refl
read_keyword kw.Super = refl
read_keyword kw.Class = refl
read_keyword kw.Extends = refl
read_keyword kw.Export = refl
read_keyword kw.Import = refl
read_keyword kw.Yield = refl
read_keyword kw.In = refl
read_keyword kw.InstanceOf = refl
read_keyword kw.TypeOf = refl
read_keyword kw.Void = refl
read_keyword kw.Delete = refl

read_known : (k : KnownIdent) → word_of (known_text k) ≡ w.Ident (Known k)
unfolding keyword_of known_of
read_known kn.Abstract = refl
read_known kn.As = refl
read_known kn.Async = refl
read_known kn.From = refl
read_known kn.Of = refl
read_known kn.Type_ = refl
read_known kn.Global = refl
read_known kn.Static = refl
read_known kn.Using = refl
read_known kn.Readonly = refl
read_known kn.Unique = refl
read_known kn.Keyof = refl
read_known kn.Declare = refl
read_known kn.Enum = refl
read_known kn.Is = refl
read_known kn.Infer = refl
read_known kn.Symbol = refl
read_known kn.Undefined = refl
read_known kn.Interface = refl
read_known kn.Implements = refl
read_known kn.Asserts = refl
read_known kn.Require = refl
read_known kn.Get = refl
read_known kn.Set = refl
read_known kn.Any = refl
read_known kn.Intrinsic = refl
read_known kn.Unknown = refl
read_known kn.String = refl
read_known kn.Object = refl
read_known kn.Number = refl
read_known kn.Bigint = refl
read_known kn.Boolean = refl
read_known kn.Never = refl
read_known kn.Assert = refl
read_known kn.Namespace = refl
read_known kn.Accessor = refl
read_known kn.Meta = refl
read_known kn.Target = refl
read_known kn.Satisfies = refl
read_known kn.Package = refl
read_known kn.Protected = refl
read_known kn.Private = refl
read_known kn.Public = refl

pub words_read_back : WordsReadBack
unfolding keyword_of
words_read_back (w.Keyword k) proper = read_keyword k
words_read_back w.Null proper = refl
words_read_back w.True proper = refl
words_read_back w.False proper = refl
words_read_back (w.Ident (Known k)) proper = read_known k
words_read_back (w.Ident (Other atom)) proper =
    rw (words_are_looked_up atom.bytes) (rw (find-lacking word_text atom.bytes table_of_words proper) refl)

chosen-kind : (a : Option Keyword) (n t f : Bool) (b : Option KnownIdent) (text : List ℕ)
    → word_of_kind (word_kind (chosen a n t f b (Other (borrowed_atom text)))) text ≡ chosen a n t f b (Other (borrowed_atom text))
unfolding chosen
chosen-kind (Some a) n t f b text = refl
chosen-kind None true t f b text = refl
chosen-kind None false true f b text = refl
chosen-kind None false false true b text = refl
chosen-kind None false false false (Some b) text = refl
chosen-kind None false false false None text = refl

-- a word is known by its kind and its text
pub word_of-kind : (text : List ℕ) → word_of_kind (word_kind (word_of text)) text ≡ word_of text
unfolding chosen
word_of-kind text = chosen-kind (keyword_of text) (is_text (codes "null") text) (is_text (codes "true") text) (is_text (codes "false") text) (known_of text) text

-- no keyword is a known name
keyword-unknown : (k : Keyword) → known_of (keyword_text k) ≡ None
unfolding known_of
keyword-unknown kw.Await = refl
keyword-unknown kw.Break = refl
keyword-unknown kw.Case = refl
keyword-unknown kw.Catch = refl
keyword-unknown kw.Continue = refl
keyword-unknown kw.Debugger = refl
keyword-unknown kw.Default_ = refl
keyword-unknown kw.Do = refl
keyword-unknown kw.Else = refl
keyword-unknown kw.Finally = refl
keyword-unknown kw.For = refl
keyword-unknown kw.Function = refl
keyword-unknown kw.If = refl
keyword-unknown kw.Return = refl
keyword-unknown kw.Switch = refl
keyword-unknown kw.Throw = refl
keyword-unknown kw.Try = refl
keyword-unknown kw.Var = refl
keyword-unknown kw.Let = refl
keyword-unknown kw.Const = refl
keyword-unknown kw.While = refl
keyword-unknown kw.With = refl
keyword-unknown kw.New = refl
keyword-unknown kw.This = refl
keyword-unknown kw.Super = refl
keyword-unknown kw.Class = refl
keyword-unknown kw.Extends = refl
keyword-unknown kw.Export = refl
keyword-unknown kw.Import = refl
keyword-unknown kw.Yield = refl
keyword-unknown kw.In = refl
keyword-unknown kw.InstanceOf = refl
keyword-unknown kw.TypeOf = refl
keyword-unknown kw.Void = refl
keyword-unknown kw.Delete = refl

chosen-known : (a : Option Keyword) (n t f : Bool) (b : Option KnownIdent) (other : AtomView)
    → ((k : Keyword) → a ≡ Some k → b ≡ None) → (n ≡ true → b ≡ None) → (t ≡ true → b ≡ None) → (f ≡ true → b ≡ None)
    → known_of_kind (word_kind (chosen a n t f b (Other other))) ≡ b
unfolding chosen
chosen-known (Some a) n t f b other h1 h2 h3 h4 = sym (h1 a refl)
chosen-known None true t f b other h1 h2 h3 h4 = sym (h2 refl)
chosen-known None false true f b other h1 h2 h3 h4 = sym (h3 refl)
chosen-known None false false true b other h1 h2 h3 h4 = sym (h4 refl)
chosen-known None false false false (Some b) other h1 h2 h3 h4 = refl
chosen-known None false false false None other h1 h2 h3 h4 = refl

unknown-at : (text word : List ℕ) → known_of word ≡ None → is_text word text ≡ true → known_of text ≡ None
unknown-at text word h e = rw (sym ((bytes_eq-Decides word text).0 e)) h

-- the known name with a text is that of the word's kind
pub known_of-kind : (text : List ℕ) → known_of_kind (word_kind (word_of text)) ≡ known_of text
unfolding chosen keyword_of known_of
known_of-kind text = chosen-known (keyword_of text) (is_text (codes "null") text) (is_text (codes "true") text) (is_text (codes "false") text) (known_of text) (borrowed_atom text)
    (λ k e. unknown-at text (keyword_text k) (keyword-unknown k) (find-holds (is_keyword_text text) all_keywords k e))
    (unknown-at text (codes "null") refl) (unknown-at text (codes "true") refl) (unknown-at text (codes "false") refl)

-- `ok_or` says what the option does
pub ok_or-matches : (found known : Option KnownIdent) → found ≡ known → MatchResult (ok_or found (tt {0})) (λ k. known ≡ Some k) (λ _. known ≡ None)
ok_or-matches None known same = sym same
ok_or-matches (Some k) known same = sym same
