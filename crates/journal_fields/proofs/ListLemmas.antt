-- Lists with a byte between their items, part by part.
use Rattle.std.proofs.Common.{◌≡◌, ℕ, List, [], ◌∷◌, ◌++◌, Option, Some, None, refl, sym, ap, ◌∙◌, append_assoc}
use Rattle.std.specs.Option.{option_map}
use Rattle.annex_base.specs.OptionSteps.{◌>>=◌}
use Rattle.journal_reading.specs.Forms.{cut, items_in, parts_of}
use Rattle.journal_fields.proofs.CutLemmas.{parts_cut, parts_whole}

-- items, and behind them those that are read
abbrev pub and_then : {A : Type 0} → List A → Option (List A) → Option (List A)
and_then items o = option_map (λ more. items ++ more) o

module _ {A : Type 0} (read : List ℕ → Option A) (b : ℕ) where
  -- nothing is read yet
  pub items_first : (word : List ℕ) → items_in read (parts_of b word) ≡ and_then [] (items_in read (parts_of b word))
  items_first word = go (items_in read (parts_of b word))
    where
      go : (o : Option (List A)) → o ≡ and_then [] o
      go None = refl
      go (Some xs) = refl

  one_more : (items : List A) (x : A) (o : Option (List A)) → and_then items (o >>= λ xs. Some (x ∷ xs)) ≡ and_then (items ++ x ∷ []) o
  one_more items x None = refl
  one_more items x (Some xs) = ap (λ l. some_list l) (sym (append_assoc items (x ∷ []) xs))
    where
      some_list : List A → Option (List A)
      some_list l = Some l

  -- the next part is read
  pub items_more : (items : List A) (whole : Option (List A)) (rest : List ℕ) (parts : List ℕ × List ℕ) (x : A)
      → whole ≡ and_then items (items_in read (parts_of b rest)) → cut b rest ≡ Some parts → read parts.0 ≡ Some x
      → whole ≡ and_then (items ++ x ∷ []) (items_in read (parts_of b parts.1))
  items_more items whole rest parts x so_far is item =
      so_far ∙ ap (λ ps. and_then items (items_in read ps)) (parts_cut b rest parts is)
      ∙ ap (λ (o : Option A). and_then items (o >>= λ y. items_in read (parts_of b parts.1) >>= λ ys. Some (y ∷ ys))) item
      ∙ one_more items x (items_in read (parts_of b parts.1))

  -- the next part is none
  pub items_bad : (items : List A) (whole : Option (List A)) (rest : List ℕ) (parts : List ℕ × List ℕ)
      → whole ≡ and_then items (items_in read (parts_of b rest)) → cut b rest ≡ Some parts → read parts.0 ≡ None → whole ≡ None
  items_bad items whole rest parts so_far is item =
      so_far ∙ ap (λ ps. and_then items (items_in read ps)) (parts_cut b rest parts is)
      ∙ ap (λ (o : Option A). and_then items (o >>= λ y. items_in read (parts_of b parts.1) >>= λ ys. Some (y ∷ ys))) item

  -- the last part is read
  pub items_last : (items : List A) (whole : Option (List A)) (rest : List ℕ) (x : A)
      → whole ≡ and_then items (items_in read (parts_of b rest)) → cut b rest ≡ None → read rest ≡ Some x → whole ≡ Some (items ++ x ∷ [])
  items_last items whole rest x so_far none item =
      so_far ∙ ap (λ ps. and_then items (items_in read ps)) (parts_whole b rest none)
      ∙ ap (λ (o : Option A). and_then items (o >>= λ y. items_in read [] >>= λ ys. Some (y ∷ ys))) item

  -- the last part is none
  pub items_last_bad : (items : List A) (whole : Option (List A)) (rest : List ℕ)
      → whole ≡ and_then items (items_in read (parts_of b rest)) → cut b rest ≡ None → read rest ≡ None → whole ≡ None
  items_last_bad items whole rest so_far none item =
      so_far ∙ ap (λ ps. and_then items (items_in read ps)) (parts_whole b rest none)
      ∙ ap (λ (o : Option A). and_then items (o >>= λ y. items_in read [] >>= λ ys. Some (y ∷ ys))) item
