-- How far a block has come, as the driver goes on: entries that may follow each other leave what the driver has, but for frames that no end
-- takes any more, and for calls that later lines let fail.
use Rattle.std.proofs.Common.{◌≡◌, ◌⊎◌, ℕ, ◌<◌, true, List, [], ◌∷◌, ◌++◌, Option, Some, refl, sym, ap, ◌∙◌, subst, append_assoc, arith}
use Rattle.std.specs.Prelude.{filter, length, map, reverse}
use Rattle.std.proofs.lemmas.List.{reverse-append}
use Rattle.annex_base.specs.Lists.{Each}
use Rattle.annex_base.specs.declared.kinds.Call.{Call}
use Rattle.annex_base.proofs.Lists.{Each-push}
use Rattle.annex_base.proofs.Numbers.{Member-range}
use Rattle.run_data.specs.declared.entry.By.{By}
use Rattle.run_data.specs.declared.entry.Entry.{Entry}
use Rattle.run_data.specs.declared.entry.EntryKind.TheVariants.{Fault}
use Rattle.run_data.specs.declared.entry.FrameView.{FrameView}
use Rattle.run_model.specs.Run.{repo_number}
use Rattle.run_model.specs.States.{end_at}
use Rattle.node_model.specs.Ends.{may_take}
use Rattle.driver_model.specs.Driver.{Driver, DriverInput, FailLine, Flight, adds, but_taken, end_to, fails_at, flight, is_failing, set_up_of, state_at, without_old_flights}
use Rattle.driver_model.specs.Rounds.{numbers}
use Rattle.driver_model.specs.Scripts.{HasBoundedPast, IsWithinBounds}
use Rattle.driver_model.specs.ScriptSteps.{will_fail}
use Rattle.driver_model.specs.Sound.{IsSound}
use Rattle.driver_model.specs.Turning.{bytes_taken, store_after}
use Rattle.driver_model.proofs.EndLemmas.{takes_self}
use Rattle.driver_model.proofs.Holding.{Keeps, NewEntry, entry_step, keeps_adds}
use Rattle.driver_model.proofs.Premises.{Laws}
use Rattle.driver_model.proofs.Scripted.{keeps_will_fail}
use Rattle.driver_model.proofs.Settles.{store_past}
use Rattle.driver_model.proofs.Turned.{keeps_cleared, keeps_store}
use Rattle.block_model.specs.Blocks.{with_fails}
use Rattle.block_model.specs.Following.{IsChosenStep, IsOfLine, MayAllFollow, MayFollow, after_entries, after_entry, but_next, effect_of, stands}
use Rattle.block_model.proofs.Lives.{bytes_left, live, live_cleared, live_left, live_next}
use Rattle.block_model.proofs.Merges.{store_same}
use Rattle.block_model.proofs.Serving.{store_flights}
use Rattle.block_model.proofs.Twins.{any_append, flights_twin, store_twin, twin}

-- From the one driver the block has come to the other, however many `fail` lines are still to come.
pub record HasCome (g : DriverInput) (d x : Driver) (P : List Entry → List Entry → List FailLine → Type 0) : Type 0 where
  pub keeps : Keeps g x
  pub es : List Entry
  pub fails : List FailLine
  pub known : Each (λ z. z.repo < length g.repos) fails
  pub follow : (rest : List FailLine) → MayAllFollow g (with_fails (fails ++ rest) d) es
  pub ys : List Flight
  pub is : (rest : List FailLine) → after_entries g es (with_fails (fails ++ rest) d) ≡ twin x ys (x.fails ++ rest)
  pub same : filter (live (numbers g) x.past) ys ≡ filter (live (numbers g) x.past) x.flights
  pub past_is : x.past ≡ reverse es ++ d.past
  pub tree_is : x.tree ≡ d.tree
  pub holds : P x.past es fails

-- ---- at first

pub begins_so : (g : DriverInput) (d : Driver) (P : List Entry → List Entry → List FailLine → Type 0) → Keeps g d → P d.past [] [] → HasCome g d d P
begins_so g d P k p = record {
  keeps = k;
  es = [];
  fails = [];
  known = tt;
  follow = λ rest. tt;
  ys = d.flights;
  is = λ rest. refl;
  same = refl;
  past_is = refl;
  tree_is = refl;
  holds = p;
}

-- ---- more holds

pub holds_too : (g : DriverInput) (d x : Driver) (P Q : List Entry → List Entry → List FailLine → Type 0) → ((es : List Entry) (fails : List FailLine) → x.past ≡ reverse es ++ d.past → P x.past es fails → Q x.past es fails) → HasCome g d x P → HasCome g d x Q
holds_too g d x P Q more b = record {
  keeps = b.keeps;
  es = b.es;
  fails = b.fails;
  known = b.known;
  follow = b.follow;
  ys = b.ys;
  is = b.is;
  same = b.same;
  past_is = b.past_is;
  tree_is = b.tree_is;
  holds = more b.es b.fails b.past_is b.holds;
}

-- ---- a `fail` line

pub one_fail : (g : DriverInput) (d x : Driver) (P Q : List Entry → List Entry → List FailLine → Type 0) (r : ℕ) → r < length g.repos → (call : Call)
    → ((es : List Entry) (fails : List FailLine) → x.past ≡ reverse es ++ d.past → P x.past es fails → Q x.past es (fails ++ record { repo = r; call = call } ∷ [])) → HasCome g d x P → HasCome g d (will_fail r call x) Q
one_fail g d x P Q r known call more b = record {
  keeps = keeps_will_fail g x r call b.keeps;
  es = b.es;
  fails = b.fails ++ f ∷ [];
  known = Each-push (λ (z : FailLine). z.repo < length g.repos) b.fails f b.known known;
  follow = λ rest. subst (λ zs. MayAllFollow g (with_fails zs d) b.es) (sym (append_assoc b.fails (f ∷ []) rest)) (b.follow (f ∷ rest));
  ys = b.ys;
  is = λ rest. ap (λ zs. after_entries g b.es (with_fails zs d)) (append_assoc b.fails (f ∷ []) rest) ∙ b.is (f ∷ rest) ∙ ap (λ zs. twin x b.ys zs) (sym (append_assoc x.fails (f ∷ []) rest));
  same = b.same;
  past_is = b.past_is;
  tree_is = b.tree_is;
  holds = more b.es b.fails b.past_is b.holds;
}
  where
    f : FailLine
    f = record { repo = r; call = call }

-- ---- what is old is dropped

pub cleared : (g : DriverInput) (d x : Driver) (P : List Entry → List Entry → List FailLine → Type 0) (r : ℕ) → r < length g.repos → HasCome g d x P → HasCome g d (without_old_flights (state_at g x r) r x) P
cleared g d x P r known b = record {
  keeps = keeps_cleared g x r b.keeps;
  es = b.es;
  fails = b.fails;
  known = b.known;
  follow = b.follow;
  ys = b.ys;
  is = b.is;
  same = b.same ∙ sym (live_cleared g x (numbers g) r (Member-range 0 (length g.repos) r (omega arith) (omega (arith, known))) x.flights);
  past_is = b.past_is;
  tree_is = b.tree_is;
  holds = b.holds;
}

-- ---- one more entry

follow_push : (g : DriverInput) (es : List Entry) (d : Driver) (e : Entry) → MayAllFollow g d es → MayFollow g (after_entries g es d) e → MayAllFollow g d (es ++ e ∷ [])
follow_push g [] d e all one = (one, tt)
follow_push g (x ∷ es) d e all one = (all.0, follow_push g es (after_entry g (repo_number x.repo) x d) e all.1 one)

entries_push : (g : DriverInput) (es : List Entry) (e : Entry) (d : Driver) → after_entries g (es ++ e ∷ []) d ≡ after_entry g (repo_number e.repo) e (after_entries g es d)
entries_push g [] e d = refl
entries_push g (x ∷ es) e d = entries_push g es e (after_entry g (repo_number x.repo) x d)

module _ (laws : Laws) (g : DriverInput) (d x : Driver) (P : List Entry → List Entry → List FailLine → Type 0) (b : HasCome g d x P) (fits : HasBoundedPast x) (r : ℕ) (known : r < length g.repos) (e : Entry)
    (n : NewEntry g x r e) (fit : IsWithinBounds x.past e) (does : (ys : List Flight) (zs : List FailLine) → IsChosenStep g (twin x ys zs) r e ⊎ IsOfLine g (twin x ys zs) r e)
    (answers : (call : Call) (by : By) → e.kind ≡ Fault call by → fails_at x r call ≡ true) where
  -- the driver as the entry leaves it
  abbrev pub next : Driver
  next = store_after (state_at g x r) r (effect_of e) (bytes_taken r e.taken x) e.kind (adds (state_at g x r) r e x)

  h : IsSound g x
  h = b.keeps fits

  may : (f : FrameView) → e.taken ≡ Some f → may_take (end_at x.past r (end_to f)) f ≡ true
  may f i = laws.entries.takes (set_up_of g x r) x.past n.words e f (end_to f) n.own i (takes_self f)

  may_follow : (ys : List Flight) (rest : List FailLine) → MayFollow g (twin x ys (x.fails ++ rest)) e
  may_follow ys rest = record {
    r = r;
    repo_is = n.repo_is;
    known = known;
    order = (entry_step laws g x h r e n fit).order;
    does = does ys (x.fails ++ rest);
    answers = λ call by i. any_append (is_failing r call) x.fails rest (answers call by i);
  }

  left : (ys : List Flight) (rest : List FailLine) → filter (live (numbers g) x.past) ys ≡ filter (live (numbers g) x.past) x.flights
      → after_entry g (repo_number e.repo) e (twin x ys (x.fails ++ rest)) ≡ twin next (but_next r e.taken ys ++ map (flight x (state_at g x r) r) e.sent) (next.fails ++ rest)
  left ys rest same =
      ap (λ (o : Option ℕ). after_entry g (repo_number o) e (twin x ys (x.fails ++ rest))) n.repo_is
      ∙ ap (λ bytes. store_after (state_at g x r) r (effect_of e) bytes e.kind (stands (state_at g x r) r e (twin x ys (x.fails ++ rest)))) (bytes_left (numbers g) x.past r x ys same e.taken may n.first)
      ∙ ap (λ fs. store_after (state_at g x r) r (effect_of e) (bytes_taken r e.taken x) e.kind (twin (adds (state_at g x r) r e x) (but_next r e.taken ys ++ fs) (x.fails ++ rest)))
      (flights_twin x ys (x.fails ++ rest) (state_at g x r) r e.sent)
      ∙ store_twin r (adds (state_at g x r) r e x) (but_next r e.taken ys ++ map (flight x (state_at g x r) r) e.sent) rest (state_at g x r) (effect_of e) (bytes_taken r e.taken x) e.kind answers

  next_past : next.past ≡ e ∷ x.past
  next_past = store_past (state_at g x r) r (effect_of e) (bytes_taken r e.taken x) e.kind (adds (state_at g x r) r e x)

  next_flights : next.flights ≡ but_taken r e.taken x.flights ++ map (flight x (state_at g x r) r) e.sent
  next_flights = store_flights (state_at g x r) r (effect_of e) (bytes_taken r e.taken x) e.kind (adds (state_at g x r) r e x)

  next_tree : next.tree ≡ x.tree
  next_tree = (store_same (state_at g x r) r (effect_of e) (bytes_taken r e.taken x) e.kind (adds (state_at g x r) r e x)).0

  next_keeps : Keeps g next
  next_keeps = keeps_store g (adds (state_at g x r) r e x) (state_at g x r) r (effect_of e) (bytes_taken r e.taken x) e.kind (keeps_adds laws g x r (state_at g x r) e b.keeps (λ h' fits' fit'. n))

  next_same : filter (live (numbers g) next.past) (but_next r e.taken b.ys ++ map (flight x (state_at g x r) r) e.sent) ≡ filter (live (numbers g) next.past) next.flights
  next_same = subst (λ past. filter (live (numbers g) past) (but_next r e.taken b.ys ++ map (flight x (state_at g x r) r) e.sent) ≡ filter (live (numbers g) past) next.flights) (sym next_past)
      (live_next laws.entries (set_up_of g x r) x.past n.words e n.repo_is n.own (numbers g) (but_next r e.taken b.ys) (but_taken r e.taken x.flights) (map (flight x (state_at g x r) r) e.sent)
      (live_left (numbers g) x.past r x b.ys b.same e.taken may n.first) ∙ ap (filter (live (numbers g) (e ∷ x.past))) (sym next_flights))

  pub one_more : (Q : List Entry → List Entry → List FailLine → Type 0) → ((es : List Entry) (fails : List FailLine) → x.past ≡ reverse es ++ d.past → P x.past es fails → Q (e ∷ x.past) (es ++ e ∷ []) fails)
      → HasCome g d next Q
  one_more Q more = record {
    keeps = next_keeps;
    es = b.es ++ e ∷ [];
    fails = b.fails;
    known = b.known;
    follow = λ rest. follow_push g b.es (with_fails (b.fails ++ rest) d) e (b.follow rest) (subst (λ (z : Driver). MayFollow g z e) (sym (b.is rest)) (may_follow b.ys rest));
    ys = but_next r e.taken b.ys ++ map (flight x (state_at g x r) r) e.sent;
    is = λ rest. entries_push g b.es e (with_fails (b.fails ++ rest) d) ∙ ap (λ (z : Driver). after_entry g (repo_number e.repo) e z) (b.is rest) ∙ left b.ys rest b.same;
    same = next_same;
    past_is = next_past ∙ ap (λ zs. e ∷ zs) b.past_is ∙ ap (λ zs. zs ++ d.past) (sym (reverse-append b.es (e ∷ [])));
    tree_is = next_tree ∙ b.tree_is;
    holds = subst (λ past. Q past (b.es ++ e ∷ []) b.fails) (sym next_past) (more b.es b.fails b.past_is b.holds);
  }
