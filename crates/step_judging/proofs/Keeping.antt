-- What is made stays as it is where the look is changed in what nothing made tells of.
use Rattle.std.proofs.Common.{◌≡◌, ◌⊎◌, inl, inr, ℕ, Bool, true, false, List, Option, Some, None, refl, sym, ap, subst, ◌∙◌}
use Rattle.std.specs.Prelude.{if◌then◌else◌, ◌||◌}
use Rattle.std.specs.List.{list_any}
use Rattle.annex_base.specs.declared.kinds.Call.{Call}
use Rattle.annex_base.specs.declared.kinds.Call.TheVariants as calls
use Rattle.annex_base.specs.declared.kinds.Word.{Word}
use Rattle.annex_base.specs.Calls.{same_call}
use Rattle.annex_base.proofs.Calls.{same_call-is}
use Rattle.run_data.specs.declared.entry.By.{By}
use Rattle.run_data.specs.declared.entry.EntryKind.{EntryKind}
use Rattle.run_data.specs.declared.entry.EntryKind.TheVariants.{Fault}
use Rattle.run_data.specs.declared.entry.FrameView.{FrameView}
use Rattle.node_model.specs.Calls.{to_commit}
use Rattle.node_model.specs.Look.{failing_call, unless}
use Rattle.node_model.specs.Slots.{job_of}
use Rattle.step_judging.specs.Telling.{failed_call, is_end, matches_told, part_told}

-- what a look chooses for what is made
pub record Choice : Type 0 where
  pub fails : Option Call
  pub part : ℕ
  pub right : Bool
  pub words : ℕ → Option Word

-- How something that is made is seen, a step's effect or a session's reply; who makes it, by which frame; what an
-- entry tells of it; the look, and the
-- one that stands in its place; and by whom its faults are, and whether that has a hold that is open.
pub record Trial (X : Type 0) : Type 0 where
  pub kind : X → EntryKind
  pub line : X → List ℕ
  pub takes : X → Option FrameView
  pub who : Option ℕ
  pub took : Option FrameView
  pub seen : X → X
  pub look : Choice
  pub other : Choice
  pub by : By
  pub holds : Bool

-- the other look is what this tells of
pub record Told {X : Type 0} (p : Trial X) (x : X) : Type 0 where
  pub fails_are : p.other.fails ≡ failed_call (p.kind x)
  pub part_is : p.other.part ≡ part_told (p.kind x) (p.line x)
  pub right_is : p.other.right ≡ matches_told (p.kind x)
  pub words_are : is_end (p.kind x) ≡ true → p.other.words ≡ p.look.words

-- x is made with the look, y with the other
pub record Keeps {X : Type 0} (p : Trial X) (x y : X) : Type 0 where
  pub fair : (failed_call (p.kind x) ≡ p.look.fails) ⊎ (failed_call (p.kind x) ≡ None)
  pub made_by : job_of (p.kind x) ≡ p.who
  pub taken_is : p.takes x ≡ p.took
  pub unheld : failed_call (p.kind x) ≡ Some calls.Unhold → (p.kind x ≡ Fault calls.Unhold p.by) × (p.holds ≡ true)
  pub same : Told p x → p.seen y ≡ p.seen x

-- a fault of a call
pub record IsFault {X : Type 0} (p : Trial X) (fault : Call → X) : Type 0 where
  pub call_is : (c : Call) → failed_call (p.kind (fault c)) ≡ Some c
  pub kind_is : (c : Call) → p.kind (fault c) ≡ Fault c p.by
  pub made_by : (c : Call) → job_of (p.kind (fault c)) ≡ p.who
  pub taken_is : (c : Call) → p.takes (fault c) ≡ p.took
  pub part_is : (c : Call) → part_told (p.kind (fault c)) (p.line (fault c)) ≡ 1
  pub right_is : (c : Call) → matches_told (p.kind (fault c)) ≡ same_call c calls.Commit

-- no fault, whoever makes it
pub record IsPlain {X : Type 0} (p : Trial X) (x : X) : Type 0 where
  pub no_call : failed_call (p.kind x) ≡ None
  pub made_by : job_of (p.kind x) ≡ p.who
  pub taken_is : p.takes x ≡ p.took

pub keeps_plain : {X : Type 0} (p : Trial X) (x : X) → IsPlain p x → Keeps p x x
keeps_plain p x h = record { fair = inr h.no_call; made_by = h.made_by; taken_is = h.taken_is; unheld = λ e. absurd (let none : None ≡ Some calls.Unhold = sym h.no_call ∙ e in cc); same = λ t. refl }

pub keeps_if : {X : Type 0} (p : Trial X) (b : Bool) (x y v w : X) → Keeps p x y → Keeps p v w → Keeps p (if b then x else v) (if b then y else w)
keeps_if p true x y v w f g = f
keeps_if p false x y v w f g = g

no_call : {X : Type 0} (p : Trial X) (x y : X) → Keeps p x y → p.look.fails ≡ None → failed_call (p.kind x) ≡ None
no_call p x y kept is = elim (kept.fair) [ inl e ↦ e ∙ is | inr e ↦ e ]

-- a hold is given back by who has one
abbrev pub GivesBack : {X : Type 0} → Trial X → List Call → Type 0
GivesBack p cs = list_any (same_call calls.Unhold) cs ≡ true → p.holds ≡ true

-- a fault of a call of these is one of a hold only where there is one
gives_back : {X : Type 0} (p : Trial X) (cs : List Call) (fault : Call → X) (c : Call) → IsFault p fault → GivesBack p cs → list_any (same_call c) cs ≡ true
    → failed_call (p.kind (fault c)) ≡ Some calls.Unhold → (p.kind (fault c) ≡ Fault calls.Unhold p.by) × (p.holds ≡ true)
gives_back p cs fault c faults held in' e =
    let some : Some c ≡ Some calls.Unhold = sym (faults.call_is c) ∙ e in
    let is : c ≡ calls.Unhold = cc in
    (faults.kind_is c ∙ ap (λ (d : Call). Fault d p.by) is, held (subst (λ (d : Call). list_any (same_call d) cs ≡ true) is in'))

pub keeps_unless : {X : Type 0} (p : Trial X) (cs : List Call) (fault : Call → X) (x y : X) → IsFault p fault → GivesBack p cs → Keeps p x y
    → Keeps p (unless (failing_call p.look.fails cs) fault x) (unless (failing_call p.other.fails cs) fault y)
keeps_unless {X = X} p cs fault x y faults held kept = go p.look.fails refl
  where
    with_call : (c : Call) → p.look.fails ≡ Some c → (b : Bool) → list_any (same_call c) cs ≡ b
        → Keeps p (unless (if b then Some c else None) fault x) (unless (failing_call p.other.fails cs) fault y)
    with_call c is true in' = record {
      fair = inl (faults.call_is c ∙ sym is);
      made_by = faults.made_by c;
      taken_is = faults.taken_is c;
      unheld = gives_back p cs fault c faults held in';
      same = λ t. rw (t.fails_are ∙ faults.call_is c) (rw in' refl);
    }
    with_call c is false in' = record {
      fair = kept.fair;
      made_by = kept.made_by;
      taken_is = kept.taken_is;
      unheld = kept.unheld;
      same = λ t. elim (kept.fair) [
        | inl e ↦ rw (t.fails_are ∙ e ∙ is) (rw in' (kept.same t))
        | inr e ↦ rw (t.fails_are ∙ e) (kept.same t)
      ];
    }

    go : (o : Option Call) → p.look.fails ≡ o → Keeps p (unless (failing_call o cs) fault x) (unless (failing_call p.other.fails cs) fault y)
    go None is = record {
      fair = kept.fair;
      made_by = kept.made_by;
      taken_is = kept.taken_is;
      unheld = kept.unheld;
      same = λ t. rw (t.fails_are ∙ no_call p x y kept is) (kept.same t);
    }
    go (Some c) is = with_call c is (list_any (same_call c) cs) refl

-- ---- where the calls depend on the look themselves

-- the calls of a part: a call among those of some size is among those of one byte
abbrev pub GrowsFrom : (ℕ → List Call) → Type 0
GrowsFrom cs = (c : Call) (n : ℕ) → list_any (same_call c) (cs n) ≡ true → list_any (same_call c) (cs 1) ≡ true

pub keeps_part : {X : Type 0} (p : Trial X) (cs : ℕ → List Call) (fault : Call → X) (made : ℕ → X) → GrowsFrom cs → IsFault p fault → ((n : ℕ) → GivesBack p (cs n))
    → ((n : ℕ) → IsPlain p (made n)) → part_told (p.kind (made p.look.part)) (p.line (made p.look.part)) ≡ p.look.part
    → Keeps p (unless (failing_call p.look.fails (cs p.look.part)) fault (made p.look.part)) (unless (failing_call p.other.fails (cs p.other.part)) fault (made p.other.part))
keeps_part p cs fault made grows faults held plain tells = go p.look.fails refl
  where
    plainly : Keeps p (made p.look.part) (unless (failing_call p.other.fails (cs p.other.part)) fault (made p.other.part))
    plainly = record {
      fair = inr (plain p.look.part).no_call;
      made_by = (plain p.look.part).made_by;
      taken_is = (plain p.look.part).taken_is;
      unheld = λ e. absurd (let none : None ≡ Some calls.Unhold = sym (plain p.look.part).no_call ∙ e in cc);
      same = λ t. rw (t.fails_are ∙ (plain p.look.part).no_call) (ap (λ n. p.seen (made n)) (t.part_is ∙ tells));
    }

    with_call : (c : Call) → p.look.fails ≡ Some c → (b : Bool) → list_any (same_call c) (cs p.look.part) ≡ b
        → Keeps p (unless (if b then Some c else None) fault (made p.look.part)) (unless (failing_call p.other.fails (cs p.other.part)) fault (made p.other.part))
    with_call c is true in' = record {
      fair = inl (faults.call_is c ∙ sym is);
      made_by = faults.made_by c;
      taken_is = faults.taken_is c;
      unheld = gives_back p (cs p.look.part) fault c faults (held p.look.part) in';
      same = λ t. rw (t.fails_are ∙ faults.call_is c, t.part_is ∙ faults.part_is c) (rw (grows c p.look.part in') refl);
    }
    with_call c is false in' = plainly

    go : (o : Option Call) → p.look.fails ≡ o
        → Keeps p (unless (failing_call o (cs p.look.part)) fault (made p.look.part)) (unless (failing_call p.other.fails (cs p.other.part)) fault (made p.other.part))
    go None is = plainly
    go (Some c) is = with_call c is (list_any (same_call c) (cs p.look.part)) refl

-- the call of a part's end says whether it matched
commits : (c : Call) (right : Bool) → list_any (same_call c) (to_commit right) ≡ true → same_call c calls.Commit ≡ right
commits c true in' = go (same_call c calls.Commit) in'
  where
    go : (b : Bool) → (b || false) ≡ true → b ≡ true
    go true e = refl
    go false e = e
commits c false in' = go (same_call c calls.DropPart) refl in'
  where
    go : (b : Bool) → same_call c calls.DropPart ≡ b → (b || false) ≡ true → same_call c calls.Commit ≡ false
    go true is e = rw (same_call-is c calls.DropPart is) refl
    go false is e = absurd (cc)

pub keeps_commit : {X : Type 0} (p : Trial X) (fault : Call → X) (made : Bool → X) → IsFault p fault
    → ((b : Bool) → IsPlain p (made b)) → matches_told (p.kind (made p.look.right)) ≡ p.look.right
    → Keeps p (unless (failing_call p.look.fails (to_commit p.look.right)) fault (made p.look.right)) (unless (failing_call p.other.fails (to_commit p.other.right)) fault (made p.other.right))
keeps_commit p fault made faults plain tells = go p.look.fails refl
  where
    never : (b : Bool) → GivesBack p (to_commit b)
    never true e = absurd (cc)
    never false e = absurd (cc)

    plainly : Keeps p (made p.look.right) (unless (failing_call p.other.fails (to_commit p.other.right)) fault (made p.other.right))
    plainly = record {
      fair = inr (plain p.look.right).no_call;
      made_by = (plain p.look.right).made_by;
      taken_is = (plain p.look.right).taken_is;
      unheld = λ e. absurd (let none : None ≡ Some calls.Unhold = sym (plain p.look.right).no_call ∙ e in cc);
      same = λ t. rw (t.fails_are ∙ (plain p.look.right).no_call) (ap (λ b. p.seen (made b)) (t.right_is ∙ tells));
    }

    with_call : (c : Call) → p.look.fails ≡ Some c → (b : Bool) → list_any (same_call c) (to_commit p.look.right) ≡ b
        → Keeps p (unless (if b then Some c else None) fault (made p.look.right)) (unless (failing_call p.other.fails (to_commit p.other.right)) fault (made p.other.right))
    with_call c is true in' = record {
      fair = inl (faults.call_is c ∙ sym is);
      made_by = faults.made_by c;
      taken_is = faults.taken_is c;
      unheld = gives_back p (to_commit p.look.right) fault c faults (never p.look.right) in';
      same = λ t. rw (t.fails_are ∙ faults.call_is c, t.right_is ∙ faults.right_is c ∙ commits c p.look.right in') (rw in' refl);
    }
    with_call c is false in' = plainly

    go : (o : Option Call) → p.look.fails ≡ o
        → Keeps p (unless (failing_call o (to_commit p.look.right)) fault (made p.look.right)) (unless (failing_call p.other.fails (to_commit p.other.right)) fault (made p.other.right))
    go None is = plainly
    go (Some c) is = with_call c is (list_any (same_call c) (to_commit p.look.right)) refl
