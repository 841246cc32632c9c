-- The key of a job is read as it is printed: by its text or its path, in quotes exactly where it has a space.
use Rattle.std.proofs.Common.{◌≡◌, inl, inr, ℕ, Bool, true, false, ◌==◌, if◌then◌else◌, List, [], ◌∷◌, ◌++◌, length, take, drop, Option, Some, None, refl, sym, ap, subst, ◌∙◌, append_assoc, arith}
use Rattle.std.specs.Prelude.{◌&&◌}
use Rattle.std.specs.List.{list_all, prefix_len}
use Rattle.std.specs.Option.{option_map}
use Rattle.std.proofs.lemmas.Bool.{cases_Bool, eqb-true}
use Rattle.std.proofs.lemmas.Bool.Decides.{nat_tests}
use Rattle.std.proofs.lemmas.Option.{cond_some}
use Rattle.std.proofs.lemmas.List.{take-append-drop, take_at, drop_at}
use Rattle.annex_base.specs.Lines.{is_one_line, is_space, is_not_space}
use Rattle.annex_base.specs.OptionSteps.{◌>>=◌}
use Rattle.annex_base.proofs.Conditions.{if_is}
use Rattle.annex_base.proofs.Options.{bind_some, is_none_true, map_some, where_some}
use Rattle.annex_key.specs.KeyText.{is_upper, is_backend, IsKeyText}
use Rattle.annex_key.specs.Tree.{Entries, key_of}
use Rattle.annex_key.specs.View.{first_fault}
use Rattle.annex_key.proofs.LineLemmas.{sound_text}
use Rattle.run_text.specs.Jobs.{key_text}
use Rattle.script_words.specs.Fields.{is_key, is_path}
use Rattle.script_words.specs.Words.{quote, is_break, has_space, printed_word}
use Rattle.script_words.proofs.FrontLemmas.{Stops, front_passes, front_len}
use Rattle.journal_reading.specs.Forms.{Form, cut}
use Rattle.journal_reading.specs.Fields.{path_key, named_key, is_printable, IsNamedKey, quoted_cut, plain_cut, word_cut, keyed}
use Rattle.journal_reading.proofs.FormLemmas.{IsForm, lacks, cut_found, cut_written}

-- ---- how a key begins

pub record Front (word : List ℕ) : Type 0 where
  pub first : ℕ
  pub rest : List ℕ
  pub spelled : word ≡ first ∷ rest
  pub no_quote : (first == 34) ≡ false
  pub no_at : (first == 64) ≡ false

upper_no_quote : (b : ℕ) → is_upper b ≡ true → (b == 34) ≡ false
upper_no_quote b e = grind (arith, nat_tests)

upper_no_at : (b : ℕ) → is_upper b ≡ true → (b == 64) ≡ false
upper_no_at b e = grind (arith, nat_tests)

front_of : (backend rest : List ℕ) → is_backend backend ≡ true → Front (backend ++ rest)
front_of [] rest e = absurd cc
front_of (b ∷ bs) rest e =
    let upper : is_upper b ≡ true = grind (arith, nat_tests, e) in
    record { first = b; rest = bs ++ rest; spelled = refl; no_quote = upper_no_quote b upper; no_at = upper_no_at b upper }

front_text : (k : List ℕ) → IsKeyText k → Front k
front_text k is = subst Front (sym is.spelled) (front_of is.parts.backend _ is.key.backend)

pub key_front : (k : List ℕ) → is_key k ≡ true → Front k
key_front k e = front_text k ((sound_text k).0 (is_none_true (first_fault k) e))

-- ---- what a word says

abbrev pub said : List ℕ → Option (List ℕ) → List ℕ
said k None = k
said k (Some path) = 64 ∷ path

pub said_printed : (k : List ℕ) (path : Option (List ℕ)) → key_text k path ≡ printed_word (said k path)
said_printed k None = refl
said_printed k (Some path) = refl

plain_found : (tree : Entries) (k word : List ℕ) → is_key k ≡ true → Front word → word ≡ k → named_key tree word ≡ Some (k, None)
plain_found tree k word e front same =
    subst (λ w. named_key tree w ≡ Some (k, None)) (sym front.spelled)
    (let test : is_key (front.first ∷ front.rest) ≡ true = subst (λ w. is_key w ≡ true) (sym same ∙ front.spelled) e in
    let whole : front.first ∷ front.rest ≡ k = sym front.spelled ∙ same in
    rw (front.no_at, test, whole) refl)

said_found : (tree : Entries) (k : List ℕ) (path : Option (List ℕ)) → IsNamedKey tree k path → named_key tree (said k path) ≡ Some (k, path)
said_found tree k None ok = plain_found tree k k ok.0 (key_front k ok.0) refl
said_found tree k (Some path) ok = rw (ok.0, ok.1) refl

-- ---- the printed word

all_plain : (word : List ℕ) → has_space word ≡ false → list_all is_not_space word ≡ true
all_plain [] e = refl
all_plain (b ∷ word) e = elim (cases_Bool (is_space b)) [
  | inl here ↦ let clash : true ≡ false = (rw here at e) in absurd cc
  | inr other ↦ let rest : has_space word ≡ false = (rw other at e) in rw other (all_plain word rest)
]

plain_none : (word : List ℕ) → list_all is_not_space word ≡ true → has_space word ≡ false
plain_none [] e = refl
plain_none (b ∷ word) e = elim (cases_Bool (is_space b)) [
  | inl here ↦ let clash : false ≡ true = (rw here at e) in absurd cc
  | inr other ↦ let rest : list_all is_not_space word ≡ true = (rw other at e) in rw other (plain_none word rest)
]

break_stops : (rest : List ℕ) → is_break rest ≡ true → Stops is_not_space rest
break_stops [] ends = tt
break_stops (b ∷ rest) ends = rw ends refl

plain_is : (word rest : List ℕ) → list_all is_not_space word ≡ true → is_break rest ≡ true → plain_cut (word ++ rest) ≡ (word, rest)
plain_is word rest all ends =
    let n : prefix_len is_not_space (word ++ rest) ≡ length word = front_len is_not_space word rest all (break_stops rest ends) in
    ap (λ k. (take k (word ++ rest), drop k (word ++ rest))) n ∙ rw (take_at word rest (length word) refl, drop_at word rest (length word) refl) refl

cut_quoted : (word rest : List ℕ) → has_space word ≡ true → lacks quote word ≡ true → word_cut ((quote ∷ word ++ quote ∷ []) ++ rest) ≡ Some (word, rest)
cut_quoted word rest spaced none =
    ap (λ l. quoted_cut (cut quote l)) (append_assoc word (quote ∷ []) rest)
    ∙ ap quoted_cut (cut_found quote word rest none) ∙ rw spaced refl

cut_plain : (b : ℕ) (bs rest : List ℕ) → (b == quote) ≡ false → has_space (b ∷ bs) ≡ false → is_break rest ≡ true → word_cut ((b ∷ bs) ++ rest) ≡ Some (b ∷ bs, rest)
cut_plain b bs rest other none ends = rw other (ap Some (plain_is (b ∷ bs) rest (all_plain (b ∷ bs) none) ends))

printable_lacks : (word : List ℕ) → is_printable word ≡ true → has_space word ≡ true → lacks quote word ≡ true
printable_lacks word e spaced = (rw spaced at e)

pub word_found : (b : ℕ) (bs rest : List ℕ) → (b == quote) ≡ false → is_printable (b ∷ bs) ≡ true → is_break rest ≡ true → word_cut (printed_word (b ∷ bs) ++ rest) ≡ Some (b ∷ bs, rest)
word_found b bs rest other printable ends = elim (cases_Bool (has_space (b ∷ bs))) [
  | inl spaced ↦ ap (λ (t : Bool). word_cut ((if t then quote ∷ (b ∷ bs) ++ quote ∷ [] else b ∷ bs) ++ rest)) spaced ∙ cut_quoted (b ∷ bs) rest spaced (printable_lacks (b ∷ bs) printable spaced)
  | inr none ↦ ap (λ (t : Bool). word_cut ((if t then quote ∷ (b ∷ bs) ++ quote ∷ [] else b ∷ bs) ++ rest)) none ∙ cut_plain b bs rest other none ends
]

front_found : (word rest : List ℕ) → Front word → is_printable word ≡ true → is_break rest ≡ true → word_cut (printed_word word ++ rest) ≡ Some (word, rest)
front_found word rest front printable ends =
    subst (λ w. word_cut (printed_word w ++ rest) ≡ Some (w, rest)) (sym front.spelled)
    (word_found front.first front.rest rest front.no_quote (subst (λ w. is_printable w ≡ true) front.spelled printable) ends)

key_found : (tree : Entries) (k : List ℕ) (path : Option (List ℕ)) (rest : List ℕ) → IsNamedKey tree k path → is_break rest ≡ true → word_cut (key_text k path ++ rest) ≡ Some (said k path, rest)
key_found tree k None rest ok ends = front_found k rest (key_front k ok.0) ok.1 ends
key_found tree k (Some path) rest ok ends = word_found 64 path rest refl ok.2 ends

pub keyed_there : {A : Type 0} (tree : Entries) (next : Form A) → IsForm next → ((y : A) → next.ok y → is_break (next.text y) ≡ true)
    → (x : (List ℕ × Option (List ℕ)) × A) → (keyed tree next).ok x → (keyed tree next).read ((keyed tree next).text x) ≡ Some x
keyed_there tree next is ends x ok =
    rw (key_found tree x.0.0 x.0.1 (next.text x.1) ok.0 (ends x.1 ok.1), said_found tree x.0.0 x.0.1 ok.0, is.there x.1 ok.1) refl

-- ---- and back

cut_lacks : (b : ℕ) (bytes : List ℕ) (parts : List ℕ × List ℕ) → cut b bytes ≡ Some parts → lacks b parts.0 ≡ true
cut_lacks b [] parts e = absurd cc
cut_lacks b (x ∷ xs) parts e = elim (cases_Bool (x == b)) [
  | inl here ↦ let same : ([], xs) ≡ parts = (let f : Some ([], xs) ≡ Some parts = (rw here at e) in cc) in subst (λ (p : List ℕ × List ℕ). lacks b p.0 ≡ true) same refl
  | inr other ↦
      let f : option_map (λ (p : List ℕ × List ℕ). (x ∷ p.0, p.1)) (cut b xs) ≡ Some parts = (rw other at e) in
      let h = map_some (cut b xs) (λ (p : List ℕ × List ℕ). (x ∷ p.0, p.1)) parts f in
      subst (λ (p : List ℕ × List ℕ). lacks b p.0 ≡ true) h.2 (rw other (cut_lacks b xs h.0 h.1))
]

quoted_some : (o : Option (List ℕ × List ℕ)) (parts : List ℕ × List ℕ) → quoted_cut o ≡ Some parts → (o ≡ Some parts) × (has_space parts.0 ≡ true)
quoted_some None parts e = absurd cc
quoted_some (Some p) parts e =
    let h = cond_some (has_space p.0) p parts e in
    (ap Some h.1, subst (λ (q : List ℕ × List ℕ). has_space q.0 ≡ true) h.1 h.0)

pub record WordBack (bytes : List ℕ) (parts : List ℕ × List ℕ) : Type 0 where
  pub spelled : bytes ≡ printed_word parts.0 ++ parts.1
  pub printable : is_printable parts.0 ≡ true

printed_spaced : (word : List ℕ) → has_space word ≡ true → printed_word word ≡ quote ∷ word ++ quote ∷ []
printed_spaced word e = rw e refl

printed_plain : (word : List ℕ) → has_space word ≡ false → printed_word word ≡ word
printed_plain word e = rw e refl

quoted_back : (b : ℕ) (bytes : List ℕ) (parts : List ℕ × List ℕ) → (b == quote) ≡ true → quoted_cut (cut quote bytes) ≡ Some parts → WordBack (b ∷ bytes) parts
quoted_back b bytes parts is e =
    let h = quoted_some (cut quote bytes) parts e in
    let whole : quote ∷ bytes ≡ (quote ∷ parts.0 ++ quote ∷ []) ++ parts.1 = ap (λ l. quote ∷ l) (cut_written quote bytes parts h.0 ∙ sym (append_assoc parts.0 (quote ∷ []) parts.1)) in
    record {
      spelled = ap (λ c. c ∷ bytes) (eqb-true b quote is) ∙ whole ∙ ap (λ l. l ++ parts.1) (sym (printed_spaced parts.0 h.1));
      printable = rw h.1 (cut_lacks quote bytes parts h.0);
    }

plain_back : (bytes : List ℕ) → WordBack bytes (plain_cut bytes)
plain_back bytes =
    let n = prefix_len is_not_space bytes in
    let none : has_space (take n bytes) ≡ false = plain_none (take n bytes) (front_passes is_not_space bytes) in
    record {
      spelled = sym (take-append-drop n bytes) ∙ ap (λ l. l ++ drop n bytes) (sym (printed_plain (take n bytes) none));
      printable = rw none refl;
    }

pub word_back : (bytes : List ℕ) (parts : List ℕ × List ℕ) → word_cut bytes ≡ Some parts → WordBack bytes parts
word_back [] parts e = absurd cc
word_back (b ∷ bytes) parts e = elim (if_is (b == quote) (quoted_cut (cut quote bytes)) (Some (plain_cut (b ∷ bytes))) (Some parts) e) [
  | inl quoted ↦ quoted_back b bytes parts quoted.0 quoted.1
  | inr plain ↦ let same : plain_cut (b ∷ bytes) ≡ parts = some_is (plain_cut (b ∷ bytes)) parts plain.1 in subst (WordBack (b ∷ bytes)) same (plain_back (b ∷ bytes))
]
  where
    some_is : (x y : List ℕ × List ℕ) → Some x ≡ Some y → x ≡ y
    some_is x y e = cc

pub record SaidBack (tree : Entries) (word : List ℕ) (x : List ℕ × Option (List ℕ)) : Type 0 where
  pub spelled : word ≡ said x.0 x.1
  pub ok : IsNamedKey tree x.0 x.1

pub said_back : (tree : Entries) (word : List ℕ) (x : List ℕ × Option (List ℕ)) → is_printable word ≡ true → named_key tree word ≡ Some x → SaidBack tree word x
said_back tree [] x printable e = absurd cc
said_back tree (b ∷ word) x printable e = elim (if_is (b == 64) (path_key tree word) (if is_key (b ∷ word) then Some (b ∷ word, None) else None) (Some x) e) [
  | inl path ↦
      let at : b ≡ 64 = eqb-true b 64 path.0 in
      let h = where_some (is_path word && is_one_line word) (option_map (λ (k : List ℕ). (k, Some word)) (key_of tree word)) x path.1 in
      let g = map_some (key_of tree word) (λ (k : List ℕ). (k, Some word)) x h.1 in
      subst (SaidBack tree (b ∷ word)) g.2 (record { spelled = ap (λ c. c ∷ word) at; ok = (h.0, g.1, subst (λ c. is_printable (c ∷ word) ≡ true) at printable) })
  | inr plain ↦
      let h = cond_some (is_key (b ∷ word)) (b ∷ word, None) x plain.1 in
      subst (SaidBack tree (b ∷ word)) h.1 (record { spelled = refl; ok = (h.0, printable) })
]

pub keyed_back : {A : Type 0} (tree : Entries) (next : Form A) → IsForm next → (bytes : List ℕ) (x : (List ℕ × Option (List ℕ)) × A)
    → (keyed tree next).read bytes ≡ Some x → (bytes ≡ (keyed tree next).text x) × (keyed tree next).ok x
keyed_back {A} tree next is bytes x e =
    let h = bind_some (word_cut bytes) (λ parts. named_key tree parts.0 >>= λ k. next.read parts.1 >>= λ y. Some (k, y)) x e in
    let g = bind_some (named_key tree h.0.0) (λ k. next.read h.0.1 >>= λ y. Some (k, y)) x h.2 in
    let f = bind_some (next.read h.0.1) (λ y. Some (g.0, y)) x g.2 in
    let word = word_back bytes h.0 h.1 in
    let named = said_back tree h.0.0 g.0 word.printable g.1 in
    let w = is.back h.0.1 f.0 f.1 in
    let text : bytes ≡ key_text g.0.0 g.0.1 ++ next.text f.0 =
    word.spelled ∙ ap (λ l. printed_word l ++ h.0.1) named.spelled ∙ ap (λ l. l ++ h.0.1) (sym (said_printed g.0.0 g.0.1)) ∙ ap (λ l. key_text g.0.0 g.0.1 ++ l) w.0 in
    subst (λ (y : (List ℕ × Option (List ℕ)) × A). (bytes ≡ (keyed tree next).text y) × (keyed tree next).ok y) (some_is (g.0, f.0) x f.2) (text, (named.ok, w.1))
  where
    some_is : (a b : (List ℕ × Option (List ℕ)) × A) → Some a ≡ Some b → a ≡ b
    some_is a b e = cc

pub is_keyed : {A : Type 0} (tree : Entries) (next : Form A) → IsForm next → ((y : A) → next.ok y → is_break (next.text y) ≡ true) → IsForm (keyed tree next)
is_keyed tree next is ends = record { there = keyed_there tree next is ends; back = keyed_back tree next is }

-- where the form reads nothing behind the key, nothing is read
pub keyed_none : {A : Type 0} (tree : Entries) (next : Form A) (k : List ℕ) (path : Option (List ℕ)) (tail : List ℕ) → IsNamedKey tree k path → is_break tail ≡ true → next.read tail ≡ None
    → (keyed tree next).read (key_text k path ++ tail) ≡ None
keyed_none tree next k path tail ok ends none = rw (key_found tree k path tail ok ends, said_found tree k path ok, none) refl
