-- What lines say depends on them up to the first one that isn't taken, and on no later one.
use Rattle.std.proofs.Common.{◌≡◌, ◌⊎◌, inl, inr, ℕ, zero, suc, Bool, if◌then◌else◌, List, [], ◌∷◌, ◌++◌, length, Option, Some, None, refl, sym, ap, subst, ◌∙◌, append_assoc}
use Rattle.std.specs.Prelude.{codes, nat_le, ◌&&◌}
use Rattle.std.proofs.lemmas.Bool.{cases_Bool}
use Rattle.annex_base.proofs.Lists.{cons_first, nil_cons}
use Rattle.run_data.specs.declared.run.RepoView.{RepoView}
use Rattle.run_data.specs.declared.run.TreeMark.{TreeMark}
use Rattle.run_data.specs.declared.entry.Entry.{Entry}
use Rattle.run_data.specs.declared.entry.FrameView.{FrameView}
use Rattle.journal_reading.specs.Lines.{Head, head_form, frame_form, may_follow, repo_form, is_new, path_form, tree_at}
use Rattle.journal_reading.specs.Reading.{Saying, ◌>>>◌, said_or, one, taken_by, taken_in, sent_by, sent_in, next_added, added_in, an_entry, frames_behind, entry_in, entries_in, repo_by, repos_in, mark_by, marks_in, header, a_run, run_behind, marks_behind, run_in}
use Rattle.journal_reading.specs.Reading.Saying.{Said, Outside}
use Rattle.journal_reading.proofs.AddedLemmas.{said_goes, said_or_is}

-- ---- readers

pub record SaidBy {A : Type 0} (p : List (List ℕ) → Saying A) (all : List (List ℕ)) (x : A) (rest : List (List ℕ)) : Type 0 where
  pub front : List (List ℕ)
  pub spelled : all ≡ front ++ rest
  pub again : (l : List ℕ) (ls more : List (List ℕ)) → rest ≡ l ∷ ls → p (front ++ l ∷ more) ≡ Said x (l ∷ more)

pub record OutBy {A : Type 0} (p : List (List ℕ) → Saying A) (all rest : List (List ℕ)) : Type 0 where
  pub front : List (List ℕ)
  pub spelled : all ≡ front ++ rest
  pub again : (l : List ℕ) (ls more : List (List ℕ)) → rest ≡ l ∷ ls → p (front ++ l ∷ more) ≡ Outside (l ∷ more)

pub record Local {A : Type 0} (p : List (List ℕ) → Saying A) : Type 0 where
  pub said : (all : List (List ℕ)) (x : A) (rest : List (List ℕ)) → p all ≡ Said x rest → SaidBy p all x rest
  pub out : (all rest : List (List ℕ)) → p all ≡ Outside rest → OutBy p all rest

pub said_is : {A : Type 0} (x y : A) (a b : List (List ℕ)) → Said x a ≡ Said y b → (x ≡ y) × (a ≡ b)
said_is x y a b e = (cc, cc)

abbrev pub outside : (A : Type 0) → List (List ℕ) → Saying A
outside A lines = Outside lines

pub out_is : (A : Type 0) (a b : List (List ℕ)) → outside A a ≡ outside A b → a ≡ b
out_is A a b e = cc

pub said_out : {A : Type 0} (x : A) (a b : List (List ℕ)) → Said x a ≡ Outside b → ⊥
said_out x a b e = cc

out_said : {A : Type 0} (x : A) (a b : List (List ℕ)) → Outside a ≡ Said x b → ⊥
out_said x a b e = cc

-- ---- one line

said_or_out : {A : Type 0} (all rest lines : List (List ℕ)) (o : Option A) → said_or all lines o ≡ Outside rest → (o ≡ None) × (all ≡ rest)
said_or_out {A} all rest lines None e = (refl, out_is A all rest e)
said_or_out {A} all rest lines (Some x) e = absurd (said_out x lines rest e)

one_local_said : {A : Type 0} (read : List ℕ → Option A) (all : List (List ℕ)) (x : A) (rest : List (List ℕ)) → one read all ≡ Said x rest → SaidBy (one read) all x rest
one_local_said read [] x rest e = absurd (out_said x [] rest e)
one_local_said read (line ∷ lines) x rest e =
    let h = said_or_is (line ∷ lines) lines (read line) x rest e in
    record { front = line ∷ []; spelled = ap (λ ls. line ∷ ls) h.1; again = λ l ls more same. ap (λ o. said_or (line ∷ l ∷ more) (l ∷ more) o) h.0 }

one_local_out : {A : Type 0} (read : List ℕ → Option A) (all rest : List (List ℕ)) → one read all ≡ Outside rest → OutBy (one read) all rest
one_local_out {A} read [] rest e =
    let none : [] ≡ rest = out_is A [] rest e in
    record { front = []; spelled = none; again = λ l ls more same. absurd (nil_cons l ls (none ∙ same)) }
one_local_out {A} read (line ∷ lines) rest e =
    let h = said_or_out (line ∷ lines) rest lines (read line) e in
    record {
      front = [];
      spelled = h.1;
      again = λ l ls more same.
          let first : line ≡ l = cons_first line l lines ls (h.1 ∙ same) in
          ap (λ o. said_or (l ∷ more) more o) (ap read (sym first) ∙ h.0);
    }

pub local_one : {A : Type 0} (read : List ℕ → Option A) → Local (one read)
local_one read = record { said = one_local_said read; out = one_local_out read }

pub one_out : {A : Type 0} (read : List ℕ → Option A) (all rest : List (List ℕ)) → one read all ≡ Outside rest → all ≡ rest
one_out {A} read [] rest e = out_is A [] rest e
one_out read (line ∷ lines) rest e = (said_or_out (line ∷ lines) rest lines (read line) e).1

-- ---- one after the other

said_on : {A : Type 0} (p : List (List ℕ) → Saying A) (all : List (List ℕ)) (x : A) (lines : List (List ℕ)) (a : SaidBy p all x lines) (f : List (List ℕ)) (l : List ℕ) (ls more : List (List ℕ)) → lines ≡ f ++ l ∷ ls
    → p (a.front ++ (f ++ l ∷ more)) ≡ Said x (f ++ l ∷ more)
said_on p all x lines a [] l ls more same = a.again l ls more same
said_on p all x lines a (m ∷ ms) l ls more same = a.again m (ms ++ l ∷ ls) (ms ++ l ∷ more) same

pub record GoesOut {A B : Type 0} (first : Saying A) (next : A → List (List ℕ) → Saying B) (rest : List (List ℕ)) : Type 0 where
  pub x : A
  pub lines : List (List ℕ)
  pub was : first ≡ Said x lines
  pub after : next x lines ≡ Outside rest

pub out_goes : {A B : Type 0} (first : Saying A) (next : A → List (List ℕ) → Saying B) (rest : List (List ℕ)) → (first >>> next) ≡ Outside rest → (first ≡ Outside rest) ⊎ GoesOut first next rest
out_goes (Said x lines) next rest e = inr (record { x = x; lines = lines; was = refl; after = e })
out_goes {A} {B} (Outside lines) next rest e = inl (ap (λ (ls : List (List ℕ)). outside A ls) (out_is B lines rest e))

then_said : {A B : Type 0} (p : List (List ℕ) → Saying A) (next : A → List (List ℕ) → Saying B) → Local p → ((x : A) → Local (next x)) → (all : List (List ℕ)) (y : B) (rest : List (List ℕ)) → (p all >>> next) ≡ Said y rest
    → SaidBy (λ ls. p ls >>> next) all y rest
then_said p next here later all y rest e =
    let h = said_goes (p all) next y rest e in
    let a = here.said all h.x h.lines h.was in
    let b = (later h.x).said h.lines y rest h.then in
    record {
      front = a.front ++ b.front;
      spelled = a.spelled ∙ ap (λ ls. a.front ++ ls) b.spelled ∙ sym (append_assoc a.front b.front rest);
      again = λ l ls more same.
          ap (λ all. p all >>> next) (append_assoc a.front b.front (l ∷ more))
          ∙ ap (λ o. o >>> next) (said_on p all h.x h.lines a b.front l ls more (b.spelled ∙ ap (λ r. b.front ++ r) same))
          ∙ b.again l ls more same;
    }

then_out : {A B : Type 0} (p : List (List ℕ) → Saying A) (next : A → List (List ℕ) → Saying B) → Local p → ((x : A) → Local (next x)) → (all rest : List (List ℕ)) → (p all >>> next) ≡ Outside rest
    → OutBy (λ ls. p ls >>> next) all rest
then_out {A} {B} p next here later all rest e = elim (out_goes (p all) next rest e) [
  | inl first ↦
      let a = here.out all rest first in
      record { front = a.front; spelled = a.spelled; again = λ l ls more same. ap (λ o. o >>> next) (a.again l ls more same) }
  | inr h ↦
      let a = here.said all h.x h.lines h.was in
      let b = (later h.x).out h.lines rest h.after in
      record {
        front = a.front ++ b.front;
        spelled = a.spelled ∙ ap (λ ls. a.front ++ ls) b.spelled ∙ sym (append_assoc a.front b.front rest);
        again = λ l ls more same.
            ap (λ all. p all >>> next) (append_assoc a.front b.front (l ∷ more))
            ∙ ap (λ o. o >>> next) (said_on p all h.x h.lines a b.front l ls more (b.spelled ∙ ap (λ r. b.front ++ r) same))
            ∙ b.again l ls more same;
      }
]

pub local_then : {A B : Type 0} (p : List (List ℕ) → Saying A) (next : A → List (List ℕ) → Saying B) → Local p → ((x : A) → Local (next x)) → Local (λ ls. p ls >>> next)
local_then p next here later = record { said = then_said p next here later; out = then_out p next here later }

-- ---- what says something of any lines

pub record PairBy {A : Type 0} (f : List (List ℕ) → A × List (List ℕ)) (all : List (List ℕ)) (r : A × List (List ℕ)) : Type 0 where
  pub front : List (List ℕ)
  pub spelled : all ≡ front ++ r.1
  pub again : (l : List ℕ) (ls more : List (List ℕ)) → r.1 ≡ l ∷ ls → f (front ++ l ∷ more) ≡ (r.0, l ∷ more)

abbrev pub lifted : {A : Type 0} → (List (List ℕ) → A × List (List ℕ)) → List (List ℕ) → Saying A
lifted f all = Said (f all).0 (f all).1

pub local_lifted : {A : Type 0} (f : List (List ℕ) → A × List (List ℕ)) → ((all : List (List ℕ)) → PairBy f all (f all)) → Local (lifted f)
local_lifted {A} f by = record {
  said = λ all x rest e.
      let h = said_is (f all).0 x (f all).1 rest e in
      let v = by all in
      record {
        front = v.front;
        spelled = v.spelled ∙ ap (λ ls. v.front ++ ls) h.1;
        again = λ l ls more same. ap (λ (r : A × List (List ℕ)). Said r.0 r.1) (v.again l ls more (h.1 ∙ same)) ∙ ap (λ y. Said y (l ∷ more)) h.0;
      };
  out = λ all rest e. absurd (said_out (f all).0 (f all).1 rest e);
}

pub local_say : {A : Type 0} (y : A) → Local (λ end. Said y end)
local_say y = record {
  said = λ all x rest e. let h = said_is y x all rest e in record { front = []; spelled = h.1; again = λ l ls more same. ap (λ z. Said z (l ∷ more)) h.0 };
  out = λ all rest e. absurd (said_out y all rest e);
}

-- nothing was taken
stays : {A : Type 0} (f : List (List ℕ) → A × List (List ℕ)) (x : A) (line : List ℕ) (lines : List (List ℕ)) → ((more : List (List ℕ)) → f (line ∷ more) ≡ (x, line ∷ more)) → PairBy f (line ∷ lines) (x, line ∷ lines)
stays f x line lines each = record {
  front = [];
  spelled = refl;
  again = λ l ls more same. let first : line ≡ l = cons_first line l lines ls same in subst (λ (b : List ℕ). f (b ∷ more) ≡ (x, b ∷ more)) first (each more);
}

ends_here : {A : Type 0} (f : List (List ℕ) → A × List (List ℕ)) (x : A) → PairBy f [] (x, [])
ends_here f x = record { front = []; spelled = refl; again = λ l ls more same. absurd (nil_cons l ls same) }

-- ---- the frame that was taken

taken_pair_by : (repos : List RepoView) (line : List ℕ) (lines : List (List ℕ)) (o : Option FrameView) → (frame_form repos (codes "< ")).read line ≡ o → PairBy (taken_in repos) (line ∷ lines) (taken_by o line lines)
taken_pair_by repos line lines None is = stays (taken_in repos) None line lines (λ more. ap (λ o. taken_by o line more) is)
taken_pair_by repos line lines (Some f) is = record { front = line ∷ []; spelled = refl; again = λ l ls more same. ap (λ o. taken_by o line (l ∷ more)) is }

taken_pair : (repos : List RepoView) (all : List (List ℕ)) → PairBy (taken_in repos) all (taken_in repos all)
taken_pair repos [] = ends_here (taken_in repos) None
taken_pair repos (line ∷ lines) = taken_pair_by repos line lines ((frame_form repos (codes "< ")).read line) refl

-- ---- those that were sent

abbrev sent_tail : List RepoView → Option FrameView → FrameView → List ℕ → List (List ℕ) → Bool → List FrameView × List (List ℕ)
sent_tail repos last f line lines t = if t then (f ∷ (sent_in repos (Some f) lines).0, (sent_in repos (Some f) lines).1) else ([], line ∷ lines)

sent_pair_by : (repos : List RepoView) (last : Option FrameView) (line : List ℕ) (lines : List (List ℕ)) → ((f : FrameView) → PairBy (sent_in repos (Some f)) lines (sent_in repos (Some f) lines))
    → (o : Option FrameView) → (frame_form repos (codes "> ")).read line ≡ o → PairBy (sent_in repos last) (line ∷ lines) (sent_by last o line lines (λ f. sent_in repos f lines))
sent_pair_by repos last line lines more None is = stays (sent_in repos last) [] line lines (λ end. ap (λ o. sent_by last o line end (λ f. sent_in repos f end)) is)
sent_pair_by repos last line lines more (Some f) is = elim (cases_Bool (may_follow last f)) [
  | inl follows ↦
      let v = more f in
      subst (λ (t : Bool). PairBy (sent_in repos last) (line ∷ lines) (sent_tail repos last f line lines t)) (sym follows)
      (record {
        front = line ∷ v.front;
        spelled = ap (λ ls. line ∷ ls) v.spelled;
        again = λ l ls end same.
            ap (λ o. sent_by last o line (v.front ++ l ∷ end) (λ g. sent_in repos g (v.front ++ l ∷ end))) is
            ∙ ap (λ t. sent_tail repos last f line (v.front ++ l ∷ end) t) follows
            ∙ ap (λ (r : List FrameView × List (List ℕ)). (f ∷ r.0, r.1)) (v.again l ls end same);
      })
  | inr out ↦
      subst (λ (t : Bool). PairBy (sent_in repos last) (line ∷ lines) (sent_tail repos last f line lines t)) (sym out)
      (stays (sent_in repos last) [] line lines (λ end. ap (λ o. sent_by last o line end (λ g. sent_in repos g end)) is ∙ ap (λ t. sent_tail repos last f line end t) out))
]

sent_pair : (repos : List RepoView) (all : List (List ℕ)) (last : Option FrameView) → PairBy (sent_in repos last) all (sent_in repos last all)
sent_pair repos [] last = ends_here (sent_in repos last) []
sent_pair repos (line ∷ lines) last = sent_pair_by repos last line lines (λ f. sent_pair repos lines (Some f)) ((frame_form repos (codes "> ")).read line) refl

-- ---- repositories

abbrev repo_tail : List RepoView → RepoView → List ℕ → List (List ℕ) → Bool → List RepoView × List (List ℕ)
repo_tail before x line lines t = if t then repos_in (before ++ x ∷ []) lines else (before, line ∷ lines)

repo_pair_by : (before : List RepoView) (line : List ℕ) (lines : List (List ℕ)) → ((b : List RepoView) → PairBy (repos_in b) lines (repos_in b lines)) → (o : Option RepoView) → repo_form.read line ≡ o
    → PairBy (repos_in before) (line ∷ lines) (repo_by before o line lines (λ b. repos_in b lines))
repo_pair_by before line lines more None is = stays (repos_in before) before line lines (λ end. ap (λ o. repo_by before o line end (λ b. repos_in b end)) is)
repo_pair_by before line lines more (Some x) is = elim (cases_Bool (is_new before x)) [
  | inl new ↦
      let v = more (before ++ x ∷ []) in
      subst (λ (t : Bool). PairBy (repos_in before) (line ∷ lines) (repo_tail before x line lines t)) (sym new)
      (record {
        front = line ∷ v.front;
        spelled = ap (λ ls. line ∷ ls) v.spelled;
        again = λ l ls end same.
            ap (λ o. repo_by before o line (v.front ++ l ∷ end) (λ b. repos_in b (v.front ++ l ∷ end))) is
            ∙ ap (λ t. repo_tail before x line (v.front ++ l ∷ end) t) new
            ∙ v.again l ls end same;
      })
  | inr old ↦
      subst (λ (t : Bool). PairBy (repos_in before) (line ∷ lines) (repo_tail before x line lines t)) (sym old)
      (stays (repos_in before) before line lines (λ end. ap (λ o. repo_by before o line end (λ b. repos_in b end)) is ∙ ap (λ t. repo_tail before x line end t) old))
]

repo_pair : (all : List (List ℕ)) (before : List RepoView) → PairBy (repos_in before) all (repos_in before all)
repo_pair [] before = ends_here (repos_in before) before
repo_pair (line ∷ lines) before = repo_pair_by before line lines (λ b. repo_pair lines b) (repo_form.read line) refl

-- ---- changes of the tree

abbrev mark_tail : ℕ → TreeMark → List ℕ → List (List ℕ) → Bool → List TreeMark × List (List ℕ)
mark_tail most m line lines t = if t then (m ∷ (marks_in m.place most lines).0, (marks_in m.place most lines).1) else ([], line ∷ lines)

mark_pair_by : (last most : ℕ) (line : List ℕ) (lines : List (List ℕ)) → ((place : ℕ) → PairBy (marks_in place most) lines (marks_in place most lines)) → (o : Option TreeMark) → path_form.read line ≡ o
    → PairBy (marks_in last most) (line ∷ lines) (mark_by last most o line lines (λ place. marks_in place most lines))
mark_pair_by last most line lines more None is = stays (marks_in last most) [] line lines (λ end. ap (λ o. mark_by last most o line end (λ place. marks_in place most end)) is)
mark_pair_by last most line lines more (Some m) is = elim (cases_Bool (nat_le last m.place && nat_le m.place most)) [
  | inl fits ↦
      let v = more m.place in
      subst (λ (t : Bool). PairBy (marks_in last most) (line ∷ lines) (mark_tail most m line lines t)) (sym fits)
      (record {
        front = line ∷ v.front;
        spelled = ap (λ ls. line ∷ ls) v.spelled;
        again = λ l ls end same.
            ap (λ o. mark_by last most o line (v.front ++ l ∷ end) (λ place. marks_in place most (v.front ++ l ∷ end))) is
            ∙ ap (λ t. mark_tail most m line (v.front ++ l ∷ end) t) fits
            ∙ ap (λ (r : List TreeMark × List (List ℕ)). (m ∷ r.0, r.1)) (v.again l ls end same);
      })
  | inr out ↦
      subst (λ (t : Bool). PairBy (marks_in last most) (line ∷ lines) (mark_tail most m line lines t)) (sym out)
      (stays (marks_in last most) [] line lines (λ end. ap (λ o. mark_by last most o line end (λ place. marks_in place most end)) is ∙ ap (λ t. mark_tail most m line end t) out))
]

mark_pair : (all : List (List ℕ)) (last most : ℕ) → PairBy (marks_in last most) all (marks_in last most all)
mark_pair [] last most = ends_here (marks_in last most) []
mark_pair (line ∷ lines) last most = mark_pair_by last most line lines (λ place. mark_pair lines place most) (path_form.read line) refl

-- ---- entries, and the whole

local_added : (n : ℕ) (last : Option (List ℕ)) → Local (added_in n last)
local_added zero last = local_say []
local_added (suc n) last = local_then (one (next_added last)) (λ x rest. added_in n (Some x) rest >>> λ xs end. Said (x ∷ xs) end) (local_one (next_added last))
    (λ x. local_then (added_in n (Some x)) (λ xs end. Said (x ∷ xs) end) (local_added n (Some x)) (λ xs. local_say (x ∷ xs)))

local_entry_behind : (h : Head) (taken : Option FrameView) (sent : List FrameView) → Local (λ ls. added_in h.1.1.1.1 None ls >>> λ lines end. Said (an_entry h taken sent lines) end)
local_entry_behind h taken sent = local_then (added_in h.1.1.1.1 None) (λ lines end. Said (an_entry h taken sent lines) end) (local_added h.1.1.1.1 None) (λ lines. local_say (an_entry h taken sent lines))

local_frames : (repos : List RepoView) (h : Head) → Local (λ ls. frames_behind repos h (taken_in repos ls))
local_frames repos h = local_then (lifted (taken_in repos)) (λ taken ls. lifted (sent_in repos None) ls >>> λ sent end. added_in h.1.1.1.1 None end >>> λ lines more. Said (an_entry h taken sent lines) more) (local_lifted (taken_in repos) (taken_pair repos))
    (λ taken. local_then (lifted (sent_in repos None)) (λ sent end. added_in h.1.1.1.1 None end >>> λ lines more. Said (an_entry h taken sent lines) more) (local_lifted (sent_in repos None) (λ all. sent_pair repos all None)) (λ sent. local_entry_behind h taken sent))

pub local_entry : (repos : List RepoView) (marks : List TreeMark) (past : List Entry) → Local (entry_in repos marks past)
local_entry repos marks past = local_then (one (head_form repos (tree_at marks (length past)) past).read) (λ h rest. frames_behind repos h (taken_in repos rest))
    (local_one (head_form repos (tree_at marks (length past)) past).read) (λ h. local_frames repos h)

pub local_entries : (n : ℕ) (repos : List RepoView) (marks : List TreeMark) (past : List Entry) → Local (entries_in n repos marks past)
local_entries zero repos marks past = local_say []
local_entries (suc n) repos marks past = local_then (entry_in repos marks past) (λ e rest. entries_in n repos marks (e ∷ past) rest >>> λ es end. Said (e ∷ es) end) (local_entry repos marks past)
    (λ e. local_then (entries_in n repos marks (e ∷ past)) (λ es end. Said (e ∷ es) end) (local_entries n repos marks (e ∷ past)) (λ es. local_say (e ∷ es)))

local_behind_marks : (n : ℕ) (repos : List RepoView) (marks : List TreeMark) → Local (λ ls. entries_in n repos marks [] ls >>> λ entries rest. Said (a_run repos marks entries) rest)
local_behind_marks n repos marks = local_then (entries_in n repos marks []) (λ entries rest. Said (a_run repos marks entries) rest) (local_entries n repos marks []) (λ entries. local_say (a_run repos marks entries))

local_behind_repos : (n : ℕ) (repos : List RepoView) → Local (λ ls. run_behind n repos (marks_in 0 n ls))
local_behind_repos n repos = local_then (lifted (marks_in 0 n)) (λ marks ls. entries_in n repos marks [] ls >>> λ entries rest. Said (a_run repos marks entries) rest) (local_lifted (marks_in 0 n) (λ all. mark_pair all 0 n)) (λ marks. local_behind_marks n repos marks)

local_behind : (n : ℕ) → Local (λ ls. marks_behind n (repos_in [] ls))
local_behind n = local_then (lifted (repos_in [])) (λ repos ls. run_behind n repos (marks_in 0 n ls)) (local_lifted (repos_in []) (λ all. repo_pair all [])) (λ repos. local_behind_repos n repos)

pub local_run : Local run_in
local_run = local_then (one header) (λ n rest. marks_behind n (repos_in [] rest)) (local_one header) (λ n. local_behind n)
