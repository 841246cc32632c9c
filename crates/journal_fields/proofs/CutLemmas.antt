-- The first byte of a kind, and what stands before it and behind it.
use Rattle.std.proofs.Common.{◌≡◌, inl, inr, ℕ, suc, true, false, not, ◌==◌, List, [], ◌∷◌, take, drop, Option, Some, None, arith, refl, sym, ap, subst, ◌∙◌}
use Rattle.std.specs.List.{prefix_len}
use Rattle.std.specs.Option.{option_map}
use Rattle.std.proofs.lemmas.Bool.Decides.{eqb_tells}
use Rattle.annex_base.proofs.Options.{map_some, some_where, none_and_some}
use Rattle.journal_reading.specs.Forms.{onto, cut, in_front, parts_of}

abbrev len_before : ℕ → List ℕ → ℕ
len_before b text = prefix_len (λ x. not (x == b)) text

len_before-here : (b x : ℕ) (xs : List ℕ) → (x == b) ≡ true → len_before b (x ∷ xs) ≡ 0
len_before-here b x xs is = rw is refl

len_before-later : (b x : ℕ) (xs : List ℕ) → (x == b) ≡ false → len_before b (x ∷ xs) ≡ suc (len_before b xs)
len_before-later b x xs other = rw other (omega arith)

cut-here : (b x : ℕ) (xs : List ℕ) → (x == b) ≡ true → cut b (x ∷ xs) ≡ Some ([], xs)
cut-here b x xs is = rw is refl

cut-later : (b x : ℕ) (xs : List ℕ) → (x == b) ≡ false → cut b (x ∷ xs) ≡ option_map (onto x) (cut b xs)
cut-later b x xs other = rw other refl

abbrev parts : List ℕ → List ℕ → Option (List ℕ × List ℕ)
parts front rest = Some (front, rest)

-- a byte of this kind stands first behind those before it
pub cut_found : (b y : ℕ) (ys xs : List ℕ) → drop (len_before b xs) xs ≡ y ∷ ys → cut b xs ≡ Some (take (len_before b xs) xs, ys)
cut_found b y ys [] is = absurd cc
cut_found b y ys (x ∷ xs) is = elim (eqb_tells x b) [
  | inl here ↦
      let e : x ∷ xs ≡ y ∷ ys = subst (λ n. drop n (x ∷ xs) ≡ y ∷ ys) (len_before-here b x xs here.0) is in
      let rest : xs ≡ ys = cc in
      cut-here b x xs here.0 ∙ ap (λ (r : List ℕ). parts [] r) rest ∙ ap (λ n. parts (take n (x ∷ xs)) ys) (sym (len_before-here b x xs here.0))
  | inr other ↦
      let n = len_before-later b x xs other.0 in
      let e : drop (len_before b xs) xs ≡ y ∷ ys = subst (λ n. drop n (x ∷ xs) ≡ y ∷ ys) n is in
      cut-later b x xs other.0 ∙ ap (option_map (onto x)) (cut_found b y ys xs e) ∙ ap (λ n. parts (take n (x ∷ xs)) ys) (sym n)
]

-- there is none
pub cut_nowhere : (b : ℕ) (xs : List ℕ) → drop (len_before b xs) xs ≡ [] → cut b xs ≡ None
cut_nowhere b [] none = refl
cut_nowhere b (x ∷ xs) none = elim (eqb_tells x b) [
  | inl here ↦ let e : x ∷ xs ≡ [] = subst (λ n. drop n (x ∷ xs) ≡ []) (len_before-here b x xs here.0) none in absurd cc
  | inr other ↦
      let e : drop (len_before b xs) xs ≡ [] = subst (λ n. drop n (x ∷ xs) ≡ []) (len_before-later b x xs other.0) none in
      cut-later b x xs other.0 ∙ ap (option_map (onto x)) (cut_nowhere b xs e)
]

-- ---- the parts between bytes of a kind

parts-here : (b x : ℕ) (xs : List ℕ) → (x == b) ≡ true → parts_of b (x ∷ xs) ≡ [] ∷ parts_of b xs
parts-here b x xs is = rw is refl

parts-later : (b x : ℕ) (xs : List ℕ) → (x == b) ≡ false → parts_of b (x ∷ xs) ≡ in_front x (parts_of b xs)
parts-later b x xs other = rw other refl

map_none : {A B : Type 0} (o : Option A) (f : A → B) → option_map f o ≡ None → o ≡ None
map_none None f e = refl
map_none (Some x) f e = absurd cc

-- the first part, and those behind it
pub parts_cut : (b : ℕ) (bytes : List ℕ) (x : List ℕ × List ℕ) → cut b bytes ≡ Some x → parts_of b bytes ≡ x.0 ∷ parts_of b x.1
parts_cut b [] x e = absurd cc
parts_cut b (y ∷ ys) x e = elim (some_where (y == b) ([], ys) x (option_map (onto y) (cut b ys)) e) [
  | inl here ↦ subst (λ p. parts_of b (y ∷ ys) ≡ p.0 ∷ parts_of b p.1) here.1 (parts-here b y ys here.0)
  | inr later ↦
      let h = map_some (cut b ys) (onto y) x later.1 in
      subst (λ p. parts_of b (y ∷ ys) ≡ p.0 ∷ parts_of b p.1) h.2 (parts-later b y ys later.0 ∙ ap (in_front y) (parts_cut b ys h.0 h.1))
]

-- the whole, where no byte of the kind stands
pub parts_whole : (b : ℕ) (bytes : List ℕ) → cut b bytes ≡ None → parts_of b bytes ≡ bytes ∷ []
parts_whole b [] none = refl
parts_whole b (y ∷ ys) none = elim (eqb_tells y b) [
  | inl here ↦ absurd (none_and_some (cut b (y ∷ ys)) ([], ys) none (cut-here b y ys here.0))
  | inr other ↦
      let e : cut b ys ≡ None = map_none (cut b ys) (onto y) (sym (cut-later b y ys other.0) ∙ none) in
      parts-later b y ys other.0 ∙ ap (in_front y) (parts_whole b ys e)
]
