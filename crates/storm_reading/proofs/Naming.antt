-- What the words of storms say: repositories, keys, numbers of turns and the content.
use Rattle.std.proofs.Common.{◌≡◌, ℕ, ◌+◌, ◌<◌, ◌≤◌, Bool, true, false, List, [], ◌∷◌, length, map, Option, Some, None, refl, sym, ap, ◌∙◌, subst, arith, inl, inr}
use Rattle.std.specs.Prelude.{◌==◌, ◌↔◌, ◌^◌, codes, if◌then◌else◌, nat_le, IfSome}
use Rattle.std.specs.List.{list_all, range_with_len}
use Rattle.std.specs.Fmt.{decimal, digits}
use Rattle.std.proofs.lemmas.Bool.{leb-true}
use Rattle.std.proofs.lemmas.Bool.Decides.{nat_tests}
use Rattle.std.proofs.lemmas.Str.{IsUtf8-from_is_utf8}
use Rattle.annex_base.specs.Lists.{Each, Member}
use Rattle.annex_base.proofs.Lists.{Each-member, cons_first, cons_rest, list_all_member}
use Rattle.annex_base.proofs.Lines.{one_line-by_test}
use Rattle.annex_base.proofs.Numbers.{Member-range}
use Rattle.annex_key.specs.KeyText.{IsKey, IsKeyText, KeyParts, is_digest_backend, key_text}
use Rattle.annex_key.specs.View.{backend_part, first_fault, name_part, size_part}
use Rattle.key_verify.specs.Digests.{digest_of, digest_text, key_method, told_digest, wanted_digest}
use Rattle.key_verify.specs.Matching.{MatchesKey, verdict_of}
use Rattle.key_verify.specs.Sums.{sum_of}
use Rattle.key_verify.specs.declared.verdict.Verdict.TheVariants.{Right}
use Rattle.script_forms.specs.Context.{Context, number_of_other, number_of_repo}
use Rattle.script_forms.specs.Steps.{if_matches, key_named, turns_of}
use Rattle.script_forms.specs.Verify.{is_content_of, is_right}
use Rattle.script_words.specs.Contents.{content_of}
use Rattle.script_words.specs.Fields as fields
use Rattle.script_words.specs.Marks.{behind_mark}
use Rattle.script_words.specs.Numbers.{number_up_to}
use Rattle.storm_script.specs.Storm.{key_word, repo_word}
use Rattle.storm_reading.proofs.Writing.{all_repos, is_plain}
use Rattle.storm_reading.proofs.Stepping.{plain_utf8, plain_one_line}

-- ---- numbers of a range

pub each_below : (P : ℕ → Type 0) (a n : ℕ) → Each P (range_with_len a n) → (r : ℕ) → a ≤ r → r < a + n → P r
each_below P a n each r low high = Each-member P (range_with_len a n) r each (Member-range a n r low high)

pub passes_below : (p : ℕ → Bool) (a n : ℕ) → list_all p (range_with_len a n) ≡ true → (r : ℕ) → a ≤ r → r < a + n → p r ≡ true
passes_below p a n all r low high = list_all_member p (range_with_len a n) r all (Member-range a n r low high)

same_among : {A : Type 0} (f g : ℕ → A) (rs : List ℕ) → map f rs ≡ map g rs → (r : ℕ) → Member r rs → f r ≡ g r
same_among f g [] e r among = absurd among
same_among f g (q ∷ rs) e r (inl here) = ap f here ∙ cons_first (f q) (g q) (map f rs) (map g rs) e ∙ ap g (sym here)
same_among f g (q ∷ rs) e r (inr later) = same_among f g rs (cons_rest (f q) (g q) (map f rs) (map g rs) e) r later

-- what is the same of each repository
pub of_eight : {A : Type 0} (f g : ℕ → A) → map f (range_with_len 0 8) ≡ map g (range_with_len 0 8) → (r : ℕ) → r < 8 → f r ≡ g r
of_eight f g e r h = same_among f g (range_with_len 0 8) e r (Member-range 0 8 r (omega arith) (omega (arith, h)))

-- ---- repositories

pub repo_plain : (r : ℕ) → r < 8 → is_plain (repo_word r) ≡ true
unfolding digits
repo_plain r h = passes_below (λ (q : ℕ). is_plain (repo_word q)) 0 8 refl r (omega arith) (omega (arith, h))

pub repo_named : (r : ℕ) → r < 8 → number_of_repo all_repos (repo_word r) ≡ Some r
unfolding digits
repo_named r h = of_eight (λ (q : ℕ). number_of_repo all_repos (repo_word q)) (λ (q : ℕ). Some q) refl r h

pub other_named : (r p : ℕ) → (r == p) ≡ false → p < 8 → number_of_other all_repos r (repo_word p) ≡ Some p
other_named r p apart h = rw (repo_named p h, apart) refl

-- ---- numbers of turns

pub turns_plain : (n : ℕ) → 1 ≤ n → n < 17 → is_plain (decimal n) ≡ true
unfolding digits
turns_plain n low high =
    passes_below (λ (q : ℕ). is_plain (decimal q)) 1 16 refl n low (omega (arith, high))

-- the laws of words that say something
pub record SayingLaws : Type 0 where
  pub numbers : (greatest n : ℕ) (word : List ℕ) → greatest < 2 ^ 64 → (number_up_to greatest word ≡ Some n) ↔ ((word ≡ decimal n) × (n ≤ greatest))
  pub sound : (text : List ℕ) → (first_fault text ≡ None) ↔ IsKeyText text
  pub backend : (k : KeyParts) → IsKey k → backend_part (key_text k) ≡ k.backend
  pub size : (k : KeyParts) → IsKey k → size_part (key_text k) ≡ k.size
  pub verdict : (key bytes : List ℕ) → (verdict_of key (sum_of key bytes) ≡ Right) ↔ MatchesKey key bytes

module _ (laws : SayingLaws) where
  pub turns_said : (n : ℕ) → 1 ≤ n → n < 17 → turns_of (decimal n) ≡ Some n
  turns_said n low high =
      let said : number_up_to 10000 (decimal n) ≡ Some n = (laws.numbers 10000 n (decimal n) (omega arith)).1 (refl, omega (arith, high)) in
      let some : nat_le 1 n ≡ true = grind (arith, nat_tests) in
      rw (said, some) refl

  -- ---- keys

  abbrev parts : ℕ → KeyParts
  parts j = record { backend = codes "WORM"; size = Some 3; mtime = None; chunk = None; name = 107 ∷ decimal j }

  name_plain : (j : ℕ) → j < 16 → is_plain (107 ∷ decimal j) ≡ true
  unfolding digits
  name_plain j h =
      passes_below (λ (q : ℕ). is_plain (107 ∷ decimal q)) 0 16 refl j (omega arith) (omega (arith, h))

  spelled : (j : ℕ) → key_word j ≡ key_text (parts j)
  unfolding digits
  spelled j = refl

  short : (j : ℕ) → j < 16 → length (key_word j) ≤ 1024
  unfolding digits
  short j h = leb-true (length (key_word j)) 1024 (passes_below (λ (q : ℕ). nat_le (length (key_word q)) 1024) 0 16 refl j (omega arith) (omega (arith, h)))

  parts_are : (j : ℕ) → j < 16 → IsKey (parts j)
  parts_are j h = record {
    backend = refl;
    size = omega arith;
    mtime = tt;
    chunk = tt;
    some_name = omega arith;
    name = record {
      utf8 = IsUtf8-from_is_utf8 (107 ∷ decimal j) (plain_utf8 (107 ∷ decimal j) (name_plain j h));
      one_line = one_line-by_test (107 ∷ decimal j) (plain_one_line (107 ∷ decimal j) (name_plain j h));
    };
    short = subst (λ (w : List ℕ). length w ≤ 1024) (spelled j) (short j h);
  }

  pub key_plain : (j : ℕ) → j < 16 → is_plain (key_word j) ≡ true
  unfolding digits
  key_plain j h =
      passes_below (λ (q : ℕ). is_plain (key_word q)) 0 16 refl j (omega arith) (omega (arith, h))

  faultless : (j : ℕ) → j < 16 → first_fault (key_word j) ≡ None
  faultless j h = (laws.sound (key_word j)).1 (record { parts = parts j; key = parts_are j h; spelled = spelled j })

  pub key_said : (context : Context) (j : ℕ) → j < 16 → key_named context (key_word j) ≡ Some (record { key = key_word j; path = None })
  unfolding fields.key_word
  key_said context j h = rw (faultless j h) refl

  -- ---- the content

  matches : (j : ℕ) → j < 16 → MatchesKey (key_word j) (codes "abc")
  matches j h =
      let size : size_part (key_word j) ≡ Some 3 = ap size_part (spelled j) ∙ laws.size (parts j) (parts_are j h) in
      let backend : backend_part (key_word j) ≡ codes "WORM" = ap backend_part (spelled j) ∙ laws.backend (parts j) (parts_are j h) in
      let wanted : wanted_digest (key_word j) ≡ None =
      ap (λ (b : List ℕ). if is_digest_backend b then Some (told_digest b (name_part (key_word j))) else None) backend in
      record {
        size = subst (λ (o : Option ℕ). IfSome o (λ n. n ≡ 3)) (sym size) refl;
        digest = subst (λ (o : Option (List ℕ)). IfSome o (λ text. text ≡ digest_text (digest_of (key_method (key_word j)) (codes "abc")))) (sym wanted) tt;
      }

  is_content : (j : ℕ) → j < 16 → is_content_of (key_word j) (codes "abc") ≡ true
  unfolding is_content_of
  is_content j h = ap is_right ((laws.verdict (key_word j) (codes "abc")).1 (matches j h))

  described : content_of (codes "text:abc") ≡ Some (codes "abc")
  unfolding content_of behind_mark
  described = refl

  pub content_said : (j : ℕ) → j < 16 → if_matches (key_word j) (content_of (codes "text:abc")) ≡ Some (codes "abc")
  content_said j h = rw (described, is_content j h) refl
