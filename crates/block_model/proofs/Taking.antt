-- The driver takes lines of an agenda as a block may: each is a line that the repository can take, and makes the entries that the line makes.
use Rattle.std.proofs.Common.{◌≡◌, ◌≢◌, ℕ, ◌+◌, ◌<◌, ◌≤◌, Bool, true, false, List, [], ◌∷◌, ◌++◌, None, inl, inr, refl, sym, ap, ◌∙◌, subst, append_assoc, append-nil, arith}
use Rattle.std.specs.Prelude.{◌==◌, ◌&&◌, ◌||◌, if◌then◌else◌, filter, length, map, nat_le, nat_lt, not, reverse}
use Rattle.std.specs.List.{list_any}
use Rattle.std.proofs.lemmas.Bool.{and_parts}
use Rattle.std.proofs.lemmas.Bool.Decides.{nat_tests}
use Rattle.std.proofs.lemmas.List.{map-append}
use Rattle.std.proofs.lemmas.List.Elements.{filter-append}
use Rattle.annex_base.specs.Lists.{Each, Member}
use Rattle.annex_base.specs.declared.kinds.Call.{Call}
use Rattle.annex_base.proofs.Conditions.{eqb_other, eqb_refl}
use Rattle.annex_base.proofs.Lists.{Each-append, Each-both, Each-from_members, Each-left, Each-right, Member-flat_map, filter_no, filter_yes}
use Rattle.run_data.specs.declared.entry.Entry.{Entry}
use Rattle.run_data.specs.declared.entry.EntryKind.TheVariants as kinds
use Rattle.run_data.specs.declared.entry.FrameText.TheVariants.{Closing}
use Rattle.run_data.specs.declared.job.Job.{Job}
use Rattle.run_model.specs.Past.{begun_count, is_of}
use Rattle.run_model.specs.Run.{paths_at}
use Rattle.run_model.specs.States.{end_at, state_of, works}
use Rattle.node_model.specs.AnyTime.{MayCome, all_ends, close_at, closes_all, ends_with}
use Rattle.node_model.specs.Ends.{End, EndName, frames, sent_at}
use Rattle.node_model.specs.Jobs.{Work}
use Rattle.node_model.specs.Look.{Effect}
use Rattle.node_model.specs.SetUp.{others}
use Rattle.script_commands.specs.declared.command.Agendum.{Agendum}
use Rattle.script_commands.specs.declared.command.BlockLine.{BlockLine}
use Rattle.script_commands.specs.declared.command.BlockLine.TheVariants.{Runs, Crashes, Closes, Fails}
use Rattle.driver_model.specs.Apart.{AreApart}
use Rattle.driver_model.specs.Driver.{Driver, DriverInput, FailLine, Flight, entry, notes, set_up_of, state_at}
use Rattle.driver_model.specs.Rounds.{Agenda, WithAgenda, may_begin, takes_all}
use Rattle.driver_model.specs.Scripts.{HasBoundedPast, IsBlockLine, IsJob}
use Rattle.driver_model.specs.ScriptSteps.{begins, closes, closes_each, crashes, ends_at, lacks_places, sends, will_fail}
use Rattle.driver_model.proofs.EndLemmas.{end_own, same_end-not, sends_all, sent_other}
use Rattle.driver_model.proofs.EndsApart.{codes, codes_apart, codes_ends}
use Rattle.driver_model.proofs.Premises.{Laws}
use Rattle.driver_model.proofs.Scripted.{come_entry, other_is, peer_same}
use Rattle.block_model.specs.Doings.{closes_one, is_free}
use Rattle.block_model.specs.Following.{effect_of}
use Rattle.block_model.proofs.Coming.{HasCome, holds_too, one_fail, one_more}
use Rattle.block_model.proofs.Doers.{Agrees, Did, begun_plain, did_line, did_other, did_unfailing, entries_own, numbers_begun, paths_plain, set_up_with}
use Rattle.block_model.proofs.Serving.{begun_more}
use Rattle.block_model.proofs.Within.{each_within, fits_before, if_no, if_yes, takes_within}

-- ---- numbers of jobs

and_true : (b : Bool) → (b && true) ≡ b
and_true true = refl
and_true false = refl

any_alike : {X : Type 0} (p q : X → Bool) (xs : List X) → ((x : X) → Member x xs → p x ≡ q x) → list_any p xs ≡ list_any q xs
any_alike p q [] f = refl
any_alike p q (x ∷ xs) f = λ i. f x (inl refl) i || any_alike p q xs (λ y m. f y (inr m)) i

-- a slot is free for a job of the block where none of its jobs runs
pub free_is : (was count : ℕ) (ws : List Work) (jobs : List ℕ) → ((w : Work) → Member w ws → w.number ≤ count) → ((j : ℕ) → list_any (λ i. j == i) jobs ≡ (nat_lt was j && nat_le j count))
    → is_free was ws ≡ (not (list_any (λ w. list_any (λ j. w.number == j) jobs) ws) && nat_lt (length ws) 4)
free_is was count ws jobs few are = ap (λ b. not b && nat_lt (length ws) 4) (any_alike (λ (w : Work). nat_lt was w.number) (λ (w : Work). list_any (λ j. w.number == j) jobs) ws at)
  where
    at : (w : Work) → Member w ws → nat_lt was w.number ≡ list_any (λ j. w.number == j) jobs
    at w m =
        let l = few w m in
        let t : nat_le w.number count ≡ true = grind (arith, nat_tests) in
        sym (are w.number ∙ ap (λ b. nat_lt was w.number && b) t ∙ and_true (nat_lt was w.number))

-- one more job
one_job : (was count j : ℕ) (b : Bool) → was ≤ count → b ≡ (nat_lt was j && nat_le j count) → ((j == count + 1) || b) ≡ (nat_lt was j && nat_le j (count + 1))
one_job was count j b low is = go (j == count + 1) refl
  where
    go : (c : Bool) → (j == count + 1) ≡ c → (c || b) ≡ (nat_lt was j && nat_le j (count + 1))
    go true i =
        let m : nat_lt was j ≡ true = grind (arith, nat_tests) in
        let n : nat_le j (count + 1) ≡ true = grind (arith, nat_tests) in
        rw (m, n) refl
    go false i = is ∙ ap (λ c. nat_lt was j && c) (at (nat_le j count) refl)
      where
        at : (c : Bool) → nat_le j count ≡ c → c ≡ nat_le j (count + 1)
        at true k = let n : nat_le j (count + 1) ≡ true = grind (arith, nat_tests) in sym n
        at false k = let n : nat_le j (count + 1) ≡ false = grind (arith, nat_tests) in sym n

less_four : (n : ℕ) → nat_lt n 4 ≡ true → n < 4
less_four n i = grind (arith, nat_tests)

-- ---- an agenda among the others

module _ (g : DriverInput) (xs : List Agendum) (d : Driver) (front back : List Agenda) (r : ℕ) (apart_front : Each (λ a. a.repo ≢ r) front) (apart_back : Each (λ a. a.repo ≢ r) back) where
  -- each has done so much of its agenda, and r has these lines left, and began these jobs
  abbrev pub Left : List BlockLine → List ℕ → List Entry → List Entry → List FailLine → Type 0
  Left lines jobs past es fails = Each (Did g xs d past es fails) (front ++ record { repo = r; lines = lines; jobs = jobs } ∷ back)

  swap : (past es past' es' : List Entry) (fails fails' : List FailLine) (a a' : Agenda) → ((b : Agenda) → b.repo ≢ r → Did g xs d past es fails b → Did g xs d past' es' fails' b)
      → (Did g xs d past es fails a → Did g xs d past' es' fails' a') → Each (Did g xs d past es fails) (front ++ a ∷ back) → Each (Did g xs d past' es' fails') (front ++ a' ∷ back)
  swap past es past' es' fails fails' a a' other own all =
      let right = Each-right (Did g xs d past es fails) front (a ∷ back) all in
      Each-append (Did g xs d past' es' fails') front (a' ∷ back)
      (Each-both (λ (b : Agenda). b.repo ≢ r) (Did g xs d past es fails) (Did g xs d past' es' fails') other front apart_front (Each-left (Did g xs d past es fails) front (a ∷ back) all))
      (own right.0, Each-both (λ (b : Agenda). b.repo ≢ r) (Did g xs d past es fails) (Did g xs d past' es' fails') other back apart_back right.1)

  module _ (laws : Laws) (known : r < length g.repos) where
    -- ---- a job begins

    module _ (x : Driver) (job : Job) (ls : List BlockLine) (jobs : List ℕ) (is_job : IsJob g r job) (b : HasCome g d x (Left (Runs job ∷ ls) jobs)) (fits' : HasBoundedPast (begins r job x)) (may : may_begin x r jobs ≡ true) where
      few : nat_lt (length (works x.past r)) 4 ≡ true
      few = (and_parts (not (list_any (λ w. list_any (λ j. w.number == j) jobs) (works x.past r))) (nat_lt (length (works x.past r)) 4) may).1

      abbrev begun : Entry
      begun = entry x r (kinds.Begin (begun_count x.past r + 1) job) []

      begins_is : begins r job x ≡ notes r (kinds.Begin (begun_count x.past r + 1) job) [] x
      begins_is = if_yes (nat_lt (length (works x.past r)) 4) (notes r (kinds.Begin (begun_count x.past r + 1) job) [] x) x few

      inside : HasBoundedPast (notes r (kinds.Begin (begun_count x.past r + 1) job) [] x)
      inside = subst HasBoundedPast begins_is fits'

      bounded : HasBoundedPast x
      bounded = (inside.0.1, inside.1)

      comes : MayCome (set_up_of g x r) (state_at g x r) [] [] (kinds.Begin (begun_count x.past r + 1) job)
      comes = (record { number_is = refl; slot_free = less_four (length (works x.past r)) few; peer = peer_same g x r job is_job; valid = is_job.valid }, refl, refl)

      number_is : (past : List Entry) → begun_count (entry x r (kinds.Begin (begun_count x.past r + 1) job) [] ∷ past) r ≡ begun_count past r + 1
      number_is past = rw (eqb_refl r) refl

      before : (t : ℕ → List (List ℕ)) → Agrees d.tree (entry x r (kinds.Begin (begun_count x.past r + 1) job) [] ∷ x.past) r t → Agrees d.tree x.past r t
      before t agrees j l =
          let up : j ≤ begun_count (entry x r (kinds.Begin (begun_count x.past r + 1) job) [] ∷ x.past) r = subst (λ n. j ≤ n) (sym (number_is x.past)) (let m = l in omega (arith, m)) in
          let other : (begun_count x.past r + 1 == j) ≡ false = grind (arith, nat_tests) in
          agrees j up ∙ rw (eqb_refl r, other) refl

      mine : (es : List Entry) (fails : List FailLine) → x.past ≡ reverse es ++ d.past → Did g xs d x.past es fails (record { repo = r; lines = Runs job ∷ ls; jobs = jobs })
          → Did g xs d (begun ∷ x.past) (es ++ begun ∷ []) fails (record { repo = r; lines = ls; jobs = (begun_count x.past r + 1) ∷ jobs })
      mine es fails past_is did = did_line g xs d x.past es (begun ∷ x.past) (es ++ begun ∷ []) (begun ∷ []) fails fails r (Runs job) ls jobs ((begun_count x.past r + 1) ∷ jobs) past_is
          (entries_own r begun (eqb_refl r) es) (sym (append-nil (filter (λ (z : FailLine). z.repo == r) fails))) before
          (λ t. free_is (begun_count d.past r) (begun_count x.past r) (works x.past r) jobs (numbers_begun g x (b.keeps bounded) r) did.jobs_are ∙ may)
          (λ t. refl)
          (λ j. one_job (begun_count d.past r) (begun_count x.past r) j (list_any (λ i. j == i) jobs) low (did.jobs_are j) ∙ ap (λ n. nat_lt (begun_count d.past r) j && nat_le j n) (sym (number_is x.past)))
          did
        where
          low : begun_count d.past r ≤ begun_count x.past r
          low = subst (λ past. begun_count d.past r ≤ begun_count past r) (sym past_is) (begun_more r (reverse es) d.past)

      pub begin_comes : HasCome g d (begins r job x) (Left ls ((begun_count x.past r + 1) ∷ jobs))
      begin_comes = subst (λ (z : Driver). HasCome g d z (Left ls ((begun_count x.past r + 1) ∷ jobs)))
          (ap (λ (zs : List Flight). record x { past = begun ∷ x.past; flights = zs }) (append-nil x.flights) ∙ sym begins_is)
          (one_more laws g d x (Left (Runs job ∷ ls) jobs) b bounded r known begun (come_entry g x r (kinds.Begin (begun_count x.past r + 1) job) [] [] known comes) inside.0.0
          (λ ys zs. inr (record { kind = refl; comes = record { may = comes; takes_none = refl } })) (λ call by i. absurd (cc)) (Left ls ((begun_count x.past r + 1) ∷ jobs))
          (λ es fails past_is all. swap x.past es (begun ∷ x.past) (es ++ begun ∷ []) fails fails (record { repo = r; lines = Runs job ∷ ls; jobs = jobs }) (record { repo = r; lines = ls; jobs = (begun_count x.past r + 1) ∷ jobs })
          (λ z n did. did_other g xs d x.past es fails begun z (eqb_other r z.repo n) did) (mine es fails past_is) all))

    -- ---- a crash

    module _ (x : Driver) (clock : ℕ) (ls : List BlockLine) (jobs : List ℕ) (b : HasCome g d x (Left (Crashes clock ∷ ls) jobs)) (inside : HasBoundedPast (crashes g r clock x)) where
      abbrev crashed : Entry
      crashed = record (entry x r (kinds.Crash clock) []) { sent = closes_all (set_up_of g x r) (state_at g x r) }

      mine_crashed : (es : List Entry) (fails : List FailLine) → x.past ≡ reverse es ++ d.past → Did g xs d x.past es fails (record { repo = r; lines = Crashes clock ∷ ls; jobs = jobs })
          → Did g xs d (crashed ∷ x.past) (es ++ crashed ∷ []) fails (record { repo = r; lines = ls; jobs = jobs })
      mine_crashed es fails past_is did = did_line g xs d x.past es (crashed ∷ x.past) (es ++ crashed ∷ []) (crashed ∷ []) fails fails r (Crashes clock) ls jobs jobs past_is
          (entries_own r crashed (eqb_refl r) es) (sym (append-nil (filter (λ (z : FailLine). z.repo == r) fails)))
          (λ t agrees j l. agrees j (subst (λ n. j ≤ n) (sym (begun_plain r crashed (eqb_refl r) refl x.past)) l) ∙ paths_plain r crashed (eqb_refl r) refl d.tree x.past j)
          (λ t. refl) (λ t. refl)
          (λ j. did.jobs_are j ∙ ap (λ n. nat_lt (begun_count d.past r) j && nat_le j n) (sym (begun_plain r crashed (eqb_refl r) refl x.past)))
          did

      pub crash_comes : HasCome g d (crashes g r clock x) (Left ls jobs)
      crash_comes = one_more laws g d x (Left (Crashes clock ∷ ls) jobs) b (inside.0.1, inside.1) r known crashed
          (come_entry g x r (kinds.Crash clock) [] (closes_all (set_up_of g x r) (state_at g x r)) known (refl, refl)) inside.0.0
          (λ ys zs. inr (record { kind = refl; comes = record { may = (refl, refl); takes_none = refl } })) (λ call by i. absurd (cc)) (Left ls jobs)
          (λ es fails past_is all. swap x.past es (crashed ∷ x.past) (es ++ crashed ∷ []) fails fails (record { repo = r; lines = Crashes clock ∷ ls; jobs = jobs }) (record { repo = r; lines = ls; jobs = jobs })
          (λ z n did. did_other g xs d x.past es fails crashed z (eqb_other r z.repo n) did) (mine_crashed es fails past_is) all)

    -- ---- a `fail` line

    pub fail_comes : (x : Driver) (call : Call) (ls : List BlockLine) (jobs : List ℕ) → HasCome g d x (Left (Fails call ∷ ls) jobs) → HasCome g d (will_fail r call x) (Left ls jobs)
    fail_comes x call ls jobs b = one_fail g d x (Left (Fails call ∷ ls) jobs) (Left ls jobs) r known call
        (λ es fails past_is all. swap x.past es x.past es fails (fails ++ record { repo = r; call = call } ∷ []) (record { repo = r; lines = Fails call ∷ ls; jobs = jobs }) (record { repo = r; lines = ls; jobs = jobs })
        (λ z n did. did_unfailing g xs d x.past es fails (record { repo = r; call = call }) z (eqb_other r z.repo n) did)
        (λ did. did_line g xs d x.past es x.past es [] fails (fails ++ record { repo = r; call = call } ∷ []) r (Fails call) ls jobs jobs past_is (sym (append-nil (filter (is_of r) es)))
        (filter-append (λ (z : FailLine). z.repo == r) fails (record { repo = r; call = call } ∷ [])
        ∙ ap (λ zs. filter (λ (z : FailLine). z.repo == r) fails ++ zs) (filter_yes (λ (z : FailLine). z.repo == r) (record { repo = r; call = call }) [] (eqb_refl r)))
        (λ t agrees. agrees) (λ t. refl) (λ t. refl) did.jobs_are did) all) b

    -- ---- ends are closed

    -- the close of an end, as the repository would make it after this past
    abbrev shut : List Entry → EndName → Effect
    shut past a = closes_one (set_up_with g r (λ j. [])) (state_of (set_up_with g r (λ j. [])) past) a

    abbrev open_at : List Entry → EndName → Bool
    open_at past a = (end_at past r a).opened

    -- Some of its open ends are closed, by a line that is not wholly done: these are its entries since then.
    pub record Closing' (first : List Entry) (line : BlockLine) (ls : List BlockLine) (jobs : List ℕ) (done : List EndName) (past es : List Entry) (fails : List FailLine) : Type 0 where
      pub front_is : Each (Did g xs d past es fails) front
      pub back_is : Each (Did g xs d past es fails) back
      pub es0 : List Entry
      pub more : List Entry
      pub mine : Did g xs d first es0 fails (record { repo = r; lines = line ∷ ls; jobs = jobs })
      pub first_is : first ≡ reverse es0 ++ d.past
      pub entries : filter (is_of r) es ≡ filter (is_of r) es0 ++ more
      pub begun : begun_count past r ≡ begun_count first r
      pub paths : (j : ℕ) → paths_at d.tree past r j ≡ paths_at d.tree first r j
      pub made : map effect_of more ≡ map (shut first) (filter (open_at first) done)

    module _ (first : List Entry) (line : BlockLine) (ls : List BlockLine) (jobs : List ℕ) where
      -- one end more
      module _ (done : List EndName) (x : Driver) (a : EndName) (among : Member a (all_ends (set_up_of g x r))) (same : end_at x.past r a ≡ end_at first r a) (opened : (end_at x.past r a).opened ≡ true)
          (b : HasCome g d x (Closing' first line ls jobs done))
          (inside : HasBoundedPast (sends g r (kinds.Close a.peer a.slot a.client) (close_at (set_up_of g x r) (state_at g x r) a) x)) where
        abbrev pub closed : Entry
        closed = record (entry x r (kinds.Close a.peer a.slot a.client) []) { sent = close_at (set_up_of g x r) (state_at g x r) a }

        shut_is : effect_of closed ≡ shut first a
        shut_is i = record { kind = kinds.Close a.peer a.slot a.client; taken = None; sent = if (same i).opened then frames a (same i) (Closing ∷ []) else []; lines = []; calls = [] }

        made_more : (more : List Entry) → map effect_of more ≡ map (shut first) (filter (open_at first) done) → map effect_of (more ++ closed ∷ []) ≡ map (shut first) (filter (open_at first) (done ++ a ∷ []))
        made_more more made =
            map-append effect_of more (closed ∷ []) ∙ ap (λ zs. zs ++ effect_of closed ∷ []) made ∙ ap (λ m. map (shut first) (filter (open_at first) done) ++ m ∷ []) shut_is
            ∙ sym (ap (map (shut first)) (filter-append (open_at first) done (a ∷ [])
            ∙ ap (λ zs. filter (open_at first) done ++ zs) (filter_yes (open_at first) a [] (ap (λ (c : End). c.opened) (sym same) ∙ opened)))
            ∙ map-append (shut first) (filter (open_at first) done) (a ∷ []))

        close_more : (es : List Entry) (fails : List FailLine) → Closing' first line ls jobs done x.past es fails → Closing' first line ls jobs (done ++ a ∷ []) (closed ∷ x.past) (es ++ closed ∷ []) fails
        close_more es fails p = record {
          front_is = Each-both (λ (z : Agenda). z.repo ≢ r) (Did g xs d x.past es fails) (Did g xs d (closed ∷ x.past) (es ++ closed ∷ []) fails) (λ z n did. did_other g xs d x.past es fails closed z (eqb_other r z.repo n) did) front apart_front p.front_is;
          back_is = Each-both (λ (z : Agenda). z.repo ≢ r) (Did g xs d x.past es fails) (Did g xs d (closed ∷ x.past) (es ++ closed ∷ []) fails) (λ z n did. did_other g xs d x.past es fails closed z (eqb_other r z.repo n) did) back apart_back p.back_is;
          es0 = p.es0;
          more = p.more ++ closed ∷ [];
          mine = p.mine;
          first_is = p.first_is;
          entries = entries_own r closed (eqb_refl r) es ∙ ap (λ zs. zs ++ closed ∷ []) p.entries ∙ append_assoc (filter (is_of r) p.es0) p.more (closed ∷ []);
          begun = begun_plain r closed (eqb_refl r) refl x.past ∙ p.begun;
          paths = λ j. paths_plain r closed (eqb_refl r) refl d.tree x.past j ∙ p.paths j;
          made = made_more p.more p.made;
        }

        one_closed : HasCome g d (sends g r (kinds.Close a.peer a.slot a.client) (close_at (set_up_of g x r) (state_at g x r) a) x) (Closing' first line ls jobs (done ++ a ∷ []))
        one_closed = one_more laws g d x (Closing' first line ls jobs done) b (inside.0.1, inside.1) r known closed
            (come_entry g x r (kinds.Close a.peer a.slot a.client) [] (close_at (set_up_of g x r) (state_at g x r) a) known (among, opened, refl, refl)) inside.0.0
            (λ ys zs. inr (record { kind = refl; comes = record { may = (among, opened, refl, refl); takes_none = refl } })) (λ call by i. absurd (cc)) (Closing' first line ls jobs (done ++ a ∷ []))
            (λ es fails past_is p. close_more es fails p)

        -- it leaves the others
        others_stay : (z : EndName) → z ≢ a → end_at (closed ∷ x.past) r z ≡ end_at x.past r z
        others_stay z n = end_own r x.past z closed (eqb_refl r) ∙ ap (λ fs. sends_all (end_at x.past r z) fs) none
          where
            none : sent_at z (close_at (set_up_of g x r) (state_at g x r) a) ≡ []
            none = ap (λ (o : Bool). sent_at z (if o then frames a (end_at x.past r a) (Closing ∷ []) else [])) opened
                ∙ sent_other a z (end_at x.past r a) (Closing ∷ []) (same_end-not a z (λ e. n (sym e)))

      -- an end that isn't open
      skips : (done : List EndName) (a : EndName) (x : Driver) → (end_at x.past r a).opened ≡ false → end_at x.past r a ≡ end_at first r a → (es : List Entry) (fails : List FailLine)
          → Closing' first line ls jobs done x.past es fails → Closing' first line ls jobs (done ++ a ∷ []) x.past es fails
      skips done a x shut_it same es fails p = record {
        front_is = p.front_is;
        back_is = p.back_is;
        es0 = p.es0;
        more = p.more;
        mine = p.mine;
        first_is = p.first_is;
        entries = p.entries;
        begun = p.begun;
        paths = p.paths;
        made = p.made ∙ ap (map (shut first)) (sym (filter-append (open_at first) done (a ∷ [])
            ∙ ap (λ zs. filter (open_at first) done ++ zs) (filter_no (open_at first) a [] (ap (λ (c : End). c.opened) (sym same) ∙ shut_it)) ∙ append-nil (filter (open_at first) done)));
      }

      each_closed : (ends done : List EndName) (x : Driver) → AreApart ends → Each (λ a. Member a (all_ends (set_up_with g r (λ j. [])))) ends → Each (λ a. end_at x.past r a ≡ end_at first r a) ends
          → HasCome g d x (Closing' first line ls jobs done) → HasBoundedPast (closes_each g r ends x) → HasCome g d (closes_each g r ends x) (Closing' first line ls jobs (done ++ ends))
      each_closed [] done x apart among same b fits = subst (λ zs. HasCome g d x (Closing' first line ls jobs zs)) (sym (append-nil done)) b
      each_closed (a ∷ ends) done x apart among same b fits = go (each_closed ends) (end_at x.past r a).opened refl fits
        where
          close : Driver
          close = sends g r (kinds.Close a.peer a.slot a.client) (close_at (set_up_of g x r) (state_at g x r) a) x

          regroup : (z : Driver) → HasCome g d z (Closing' first line ls jobs ((done ++ a ∷ []) ++ ends)) → HasCome g d z (Closing' first line ls jobs (done ++ a ∷ ends))
          regroup z c = subst (λ zs. HasCome g d z (Closing' first line ls jobs zs)) (append_assoc done (a ∷ []) ends) c

          go : ((done : List EndName) (x : Driver) → AreApart ends → Each (λ a. Member a (all_ends (set_up_with g r (λ j. [])))) ends → Each (λ a. end_at x.past r a ≡ end_at first r a) ends
              → HasCome g d x (Closing' first line ls jobs done) → HasBoundedPast (closes_each g r ends x) → HasCome g d (closes_each g r ends x) (Closing' first line ls jobs (done ++ ends)))
              → (o : Bool) → (end_at x.past r a).opened ≡ o
              → HasBoundedPast (closes_each g r ends (if o then sends g r (kinds.Close a.peer a.slot a.client) (close_at (set_up_of g x r) (state_at g x r) a) x else x))
              → HasCome g d (closes_each g r ends (if o then sends g r (kinds.Close a.peer a.slot a.client) (close_at (set_up_of g x r) (state_at g x r) a) x else x)) (Closing' first line ls jobs (done ++ a ∷ ends))
          go later true o f =
              let inside = fits_before close (closes_each g r ends close) (each_within g r ends close) f in
              regroup (closes_each g r ends close) (later (done ++ a ∷ []) close apart.1 among.1
              (Each-both (λ (z : EndName). z ≢ a) (λ (z : EndName). end_at x.past r z ≡ end_at first r z) (λ (z : EndName). end_at close.past r z ≡ end_at first r z) (λ z n s. others_stay done x a among.0 same.0 o b inside z n ∙ s) ends apart.0 same.1)
              (one_closed done x a among.0 same.0 o b inside) f)
          go later false o f =
              regroup (closes_each g r ends x) (later (done ++ a ∷ []) x apart.1 among.1 same.1
              (holds_too g d x (Closing' first line ls jobs done) (Closing' first line ls jobs (done ++ a ∷ [])) (λ es fails past_is p. skips done a x o same.0 es fails p) b) f)

    each_same : (past : List Entry) (ends : List EndName) → Each (λ a. end_at past r a ≡ end_at past r a) ends
    each_same past [] = tt
    each_same past (a ∷ ends) = (refl, each_same past ends)

    pub close_comes : (x : Driver) (other : ℕ) (ls : List BlockLine) (jobs : List ℕ) → other < length g.repos → other ≢ r → lacks_places x.past r other ≡ false → HasCome g d x (Left (Closes other ∷ ls) jobs)
        → HasBoundedPast (closes g r other x) → HasCome g d (closes g r other x) (Left ls jobs)
    close_comes x other ls jobs there apart enough b fits =
        subst (λ (z : Driver). HasCome g d z (Left ls jobs)) (sym closes_is)
        (holds_too g d (closes_each g r (ends_at other) x) (Closing' x.past (Closes other) ls jobs (ends_at other)) (Left ls jobs) finished
        (each_closed x.past (Closes other) ls jobs (ends_at other) [] x (codes_ends other codes codes_apart) among (each_same x.past (ends_at other))
        (holds_too g d x (Left (Closes other ∷ ls) jobs) (Closing' x.past (Closes other) ls jobs []) begun b) (subst HasBoundedPast closes_is fits)))
      where
        closes_is : closes g r other x ≡ closes_each g r (ends_at other) x
        closes_is = if_no (lacks_places x.past r other) x (closes_each g r (ends_at other) x) enough

        among : Each (λ a. Member a (all_ends (set_up_with g r (λ j. [])))) (ends_at other)
        among = Each-from_members (λ a. Member a (all_ends (set_up_with g r (λ j. [])))) (ends_with other true ++ ends_with other false)
            (λ a m. Member-flat_map (λ peer. ends_with peer true ++ ends_with peer false) (others (set_up_with g r (λ j. []))) other a (other_is (set_up_with g r (λ j. [])) other there apart) m)

        begun : (es : List Entry) (fails : List FailLine) → x.past ≡ reverse es ++ d.past → Left (Closes other ∷ ls) jobs x.past es fails → Closing' x.past (Closes other) ls jobs [] x.past es fails
        begun es fails past_is all =
            let right = Each-right (Did g xs d x.past es fails) front (record { repo = r; lines = Closes other ∷ ls; jobs = jobs } ∷ back) all in
            record {
              front_is = Each-left (Did g xs d x.past es fails) front (record { repo = r; lines = Closes other ∷ ls; jobs = jobs } ∷ back) all;
              back_is = right.1;
              es0 = es;
              more = [];
              mine = right.0;
              first_is = past_is;
              entries = sym (append-nil (filter (is_of r) es));
              begun = refl;
              paths = λ j. refl;
              made = refl;
            }

        finished : (es : List Entry) (fails : List FailLine) → (closes_each g r (ends_at other) x).past ≡ reverse es ++ d.past
            → Closing' x.past (Closes other) ls jobs (ends_at other) (closes_each g r (ends_at other) x).past es fails → Left ls jobs (closes_each g r (ends_at other) x).past es fails
        finished es fails past_is p =
            let after : List Entry = (closes_each g r (ends_at other) x).past in
            Each-append (Did g xs d after es fails) front (record { repo = r; lines = ls; jobs = jobs } ∷ back) p.front_is (
              did_line g xs d x.past p.es0 after es p.more fails fails r (Closes other) ls jobs jobs p.first_is p.entries (sym (append-nil (filter (λ (z : FailLine). z.repo == r) fails)))
                  (λ t agrees j l. agrees j (subst (λ n. j ≤ n) (sym p.begun) l) ∙ p.paths j) (λ t. refl) (λ t. p.made)
                  (λ j. p.mine.jobs_are j ∙ ap (λ n. nat_lt (begun_count d.past r) j && nat_le j n) (sym p.begun)) p.mine,
              p.back_is,
            )

    -- ---- all lines that it can take

    -- what is left of its agenda is among the others
    abbrev pub LeftBy : WithAgenda → Type 0
    LeftBy y = HasCome g d y.driver (λ past es fails. Each (Did g xs d past es fails) (front ++ y.left ∷ back))

    pub takes_come : (ls : List BlockLine) (jobs : List ℕ) (x : Driver) → Each (IsBlockLine g r) ls → HasCome g d x (Left ls jobs) → HasBoundedPast (takes_all g r ls jobs x).driver → LeftBy (takes_all g r ls jobs x)
    takes_come [] jobs x all b fits = b
    takes_come (Runs job ∷ ls) jobs x all b fits = go (takes_come ls ((begun_count x.past r + 1) ∷ jobs) (begins r job x) all.1) (may_begin x r jobs) refl fits
      where
        after : WithAgenda
        after = takes_all g r ls ((begun_count x.past r + 1) ∷ jobs) (begins r job x)

        go : (HasCome g d (begins r job x) (Left ls ((begun_count x.past r + 1) ∷ jobs)) → HasBoundedPast (takes_all g r ls ((begun_count x.past r + 1) ∷ jobs) (begins r job x)).driver
            → LeftBy (takes_all g r ls ((begun_count x.past r + 1) ∷ jobs) (begins r job x)))
            → (c : Bool) → may_begin x r jobs ≡ c
            → HasBoundedPast (if c then takes_all g r ls ((begun_count x.past r + 1) ∷ jobs) (begins r job x) else record { driver = x; left = record { repo = r; lines = Runs job ∷ ls; jobs = jobs } }).driver
            → LeftBy (if c then takes_all g r ls ((begun_count x.past r + 1) ∷ jobs) (begins r job x) else record { driver = x; left = record { repo = r; lines = Runs job ∷ ls; jobs = jobs } })
        go more true i f = more (begin_comes x job ls jobs all.0 b (fits_before (begins r job x) after.driver (takes_within g r ls ((begun_count x.past r + 1) ∷ jobs) (begins r job x)) f) i) f
        go more false i f = b
    takes_come (Crashes clock ∷ ls) jobs x all b fits =
        takes_come ls jobs (crashes g r clock x) all.1
        (crash_comes x clock ls jobs b (fits_before (crashes g r clock x) (takes_all g r ls jobs (crashes g r clock x)).driver (takes_within g r ls jobs (crashes g r clock x)) fits)) fits
    takes_come (Closes other ∷ ls) jobs x all b fits = go (takes_come ls jobs (closes g r other x) all.1) (lacks_places x.past r other) refl fits
      where
        after : WithAgenda
        after = takes_all g r ls jobs (closes g r other x)

        go : (HasCome g d (closes g r other x) (Left ls jobs) → HasBoundedPast (takes_all g r ls jobs (closes g r other x)).driver → LeftBy (takes_all g r ls jobs (closes g r other x)))
            → (c : Bool) → lacks_places x.past r other ≡ c
            → HasBoundedPast (if c then record { driver = x; left = record { repo = r; lines = Closes other ∷ ls; jobs = jobs } } else takes_all g r ls jobs (closes g r other x)).driver
            → LeftBy (if c then record { driver = x; left = record { repo = r; lines = Closes other ∷ ls; jobs = jobs } } else takes_all g r ls jobs (closes g r other x))
        go more true i f = b
        go more false i f = more (close_comes x other ls jobs all.0.0 all.0.1 i b (fits_before (closes g r other x) after.driver (takes_within g r ls jobs (closes g r other x)) f)) f
    takes_come (Fails call ∷ ls) jobs x all b fits = takes_come ls jobs (will_fail r call x) all.1 (fail_comes x call ls jobs b) fits
