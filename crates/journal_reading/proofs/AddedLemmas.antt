-- The lines that an entry added are read as they are written.
use Rattle.std.proofs.Common.{◌≡◌, ℕ, zero, suc, true, List, [], ◌∷◌, ◌++◌, map, length, Option, Some, None, refl, ap, subst, ◌∙◌}
use Rattle.std.specs.Prelude.{codes}
use Rattle.std.proofs.lemmas.Option.{cond_some}
use Rattle.annex_base.proofs.Options.{bind_some}
use Rattle.journal_reading.specs.Lines.{line_may_follow, is_added, added_form}
use Rattle.journal_reading.specs.Reading.{Saying, ◌>>>◌, said_or, one, if_follows, next_added, added_in}
use Rattle.journal_reading.specs.Reading.Saying.{Said, Outside}
use Rattle.journal_reading.specs.WellFormed.{AreAdded}
use Rattle.journal_reading.specs.Forms.{passing}
use Rattle.journal_reading.proofs.FormLemmas.{IsForm, is_behind, is_passing}

-- ---- steps over lines

pub record Goes {A B : Type 0} (first : Saying A) (next : A → List (List ℕ) → Saying B) (y : B) (rest : List (List ℕ)) : Type 0 where
  pub x : A
  pub lines : List (List ℕ)
  pub was : first ≡ Said x lines
  pub then : next x lines ≡ Said y rest

pub said_goes : {A B : Type 0} (first : Saying A) (next : A → List (List ℕ) → Saying B) (y : B) (rest : List (List ℕ)) → (first >>> next) ≡ Said y rest → Goes first next y rest
said_goes (Said x lines) next y rest e = record { x = x; lines = lines; was = refl; then = e }
said_goes (Outside lines) next y rest e = absurd cc

pub record OneLine {A : Type 0} (read : List ℕ → Option A) (all : List (List ℕ)) (x : A) (rest : List (List ℕ)) : Type 0 where
  pub line : List ℕ
  pub first : all ≡ line ∷ rest
  pub reads : read line ≡ Some x

pub said_or_is : {A : Type 0} (all lines : List (List ℕ)) (o : Option A) (x : A) (rest : List (List ℕ)) → said_or all lines o ≡ Said x rest → (o ≡ Some x) × (lines ≡ rest)
said_or_is all lines None x rest e = absurd cc
said_or_is all lines (Some y) x rest e = (cc, cc)

pub one_said : {A : Type 0} (read : List ℕ → Option A) (all : List (List ℕ)) (x : A) (rest : List (List ℕ)) → one read all ≡ Said x rest → OneLine read all x rest
one_said read [] x rest e = absurd cc
one_said read (line ∷ lines) x rest e =
    let h = said_or_is (line ∷ lines) lines (read line) x rest e in record { line = line; first = ap (λ l. line ∷ l) h.1; reads = h.0 }

-- ---- added lines

abbrev pub added_line : List ℕ → List ℕ
added_line line = codes "| " ++ line

is_added_form : IsForm added_form
is_added_form = is_behind (codes "| ") (passing is_added) (is_passing is_added)

next_there : (last : Option (List ℕ)) (line : List ℕ) → is_added line ≡ true → line_may_follow last line ≡ true → next_added last (added_line line) ≡ Some line
next_there last line ok follows = rw (is_added_form.there line ok, follows) refl

pub next_back : (last : Option (List ℕ)) (text line : List ℕ) → next_added last text ≡ Some line → (text ≡ added_line line) × (is_added line ≡ true) × (line_may_follow last line ≡ true)
next_back last text line e =
    let h = bind_some (added_form.read text) (if_follows last) line e in
    let g = cond_some (line_may_follow last h.0) h.0 line h.2 in
    let w = is_added_form.back text h.0 h.1 in
    subst (λ (l : List ℕ). (text ≡ added_line l) × (is_added l ≡ true) × (line_may_follow last l ≡ true)) g.1 (w.0, w.1, g.0)

pub added_there : (lines rest : List (List ℕ)) (last : Option (List ℕ)) → AreAdded last lines → added_in (length lines) last (map added_line lines ++ rest) ≡ Said lines rest
added_there [] rest last ok = refl
added_there (line ∷ lines) rest last ok = rw (next_there last line ok.0 ok.1, added_there lines rest (Some line) ok.2) refl

pub record AddedBack (n : ℕ) (last : Option (List ℕ)) (all lines rest : List (List ℕ)) : Type 0 where
  pub spelled : all ≡ map added_line lines ++ rest
  pub ok : AreAdded last lines
  pub count : length lines ≡ n

pub added_back : (n : ℕ) (last : Option (List ℕ)) (all lines rest : List (List ℕ)) → added_in n last all ≡ Said lines rest → AddedBack n last all lines rest
added_back zero last all lines rest e =
    let none : [] ≡ lines = cc in let same : all ≡ rest = cc in
    subst (λ (l : List (List ℕ)). AddedBack zero last all l rest) none (record { spelled = same; ok = tt; count = refl })
added_back (suc n) last all lines rest e =
    let h = said_goes (one (next_added last) all) (λ x more. added_in n (Some x) more >>> λ xs end. Said (x ∷ xs) end) lines rest e in
    let one = one_said (next_added last) all h.x h.lines h.was in
    let g = said_goes (added_in n (Some h.x) h.lines) (λ xs end. Said (h.x ∷ xs) end) lines rest h.then in
    let w = next_back last one.line h.x one.reads in
    let v = added_back n (Some h.x) h.lines g.x g.lines g.was in
    let same : h.x ∷ g.x ≡ lines = (let f = g.then in cc) in
    let end : g.lines ≡ rest = (let f = g.then in cc) in
    subst (λ (l : List (List ℕ)). AddedBack (suc n) last all l rest) same (record {
      spelled = one.first ∙ ap (λ (t : List ℕ). t ∷ h.lines) w.0 ∙ ap (λ (l : List (List ℕ)). added_line h.x ∷ l) (v.spelled ∙ ap (λ (l : List (List ℕ)). map added_line g.x ++ l) end);
      ok = (w.1, w.2, v.ok);
      count = ap suc v.count;
    })
