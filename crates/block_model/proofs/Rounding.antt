-- The driver's turns and rounds go on as a block may, and so do its takings from all agendas.
use Rattle.std.proofs.Common.{◌≡◌, ◌≢◌, ℕ, zero, suc, ◌+◌, ◌<◌, Bool, true, false, List, [], ◌∷◌, ◌++◌, Option, Some, None, inl, refl, sym, ap, ◌∙◌, subst, append_assoc, arith}
use Rattle.std.specs.Prelude.{if◌then◌else◌, length, map, reverse}
use Rattle.std.specs.List.{range_with_len}
use Rattle.std.proofs.lemmas.Bool.{eqb-true}
use Rattle.annex_base.specs.Lists.{Each}
use Rattle.annex_base.specs.declared.kinds.Word.{Word}
use Rattle.annex_base.proofs.Lists.{Each-both, Each-push, Each-weaker}
use Rattle.annex_base.proofs.Numbers.{range_above}
use Rattle.run_data.specs.declared.entry.Entry.{Entry}
use Rattle.run_model.specs.Past.{begun_count, is_of}
use Rattle.run_model.specs.Run.{IsStep, paths_at}
use Rattle.node_model.specs.Look.{Effect, entry_of}
use Rattle.node_model.specs.Rows.{option_is}
use Rattle.node_model.specs.Step.{step}
use Rattle.run_data.specs.declared.run.TreeMark.{TreeMark}
use Rattle.script_commands.specs.declared.command.Agendum.{Agendum}
use Rattle.script_commands.specs.declared.command.BlockLine.{BlockLine}
use Rattle.script_commands.specs.declared.command.BlockLine.TheVariants.{Runs, Crashes, Closes, Fails}
use Rattle.driver_model.specs.Driver.{Driver, DriverInput, FailLine, adds, set_up_of, state_at, without_old_flights}
use Rattle.driver_model.specs.Rounds.{Agenda, Block, InBlock, WithAgenda, agenda, and_left, block_at, block_round, block_rounds, is_over, is_stuck, lacks_next, may_begin, numbers, round, stuck_at, takes_all, takes_each, turns_of, with_round}
use Rattle.driver_model.specs.Scripts.{HasBoundedPast, IsAgendum}
use Rattle.driver_model.specs.ScriptSteps.{begins, closes, crashes, lacks_places, will_fail}
use Rattle.driver_model.specs.Sound.{IsSound}
use Rattle.driver_model.specs.Turning.{bytes_taken, look_for, looks, makes, plain_look, store_after, turn}
use Rattle.driver_model.proofs.Driven.{IsAgenda, agendas, keeps_block_round}
use Rattle.driver_model.proofs.Holding.{Keeps}
use Rattle.driver_model.proofs.Numbers.{below_len}
use Rattle.driver_model.proofs.Premises.{Laws}
use Rattle.block_model.proofs.Coming.{HasCome, begins_so, cleared, one_more}
use Rattle.block_model.proofs.Doers.{Did, did_none, did_other, did_step, numbers_begun, set_up_with}
use Rattle.block_model.proofs.Taking.{takes_come}
use Rattle.block_model.proofs.TurnSteps.{fault_waits, is_chosen, is_new, is_step}
use Rattle.block_model.proofs.Twins.{told_alike}
use Rattle.block_model.proofs.Within.{agendas_within, fits_before, round_within, store_larger, turns_of_within}
use Rattle.driver_model.proofs.Settles.{store_past}

-- all agendas, as far as they are done
abbrev pub Doers : DriverInput → List Agendum → Driver → List Agenda → List Entry → List Entry → List FailLine → Type 0
Doers g xs d ags past es fails = Each (Did g xs d past es fails) ags

-- ---- agendas

-- no two are the same
abbrev pub AreDistinct : List ℕ → Type 0
AreDistinct [] = Unit {0}
AreDistinct (r ∷ rs) = Each (λ q. q ≢ r) rs × AreDistinct rs

not_less : (a b : ℕ) → a < b → b ≡ a → ⊥
not_less a b l e = omega (arith, l, e)

pub range_distinct : (a n : ℕ) → AreDistinct (range_with_len a n)
range_distinct a zero = tt
range_distinct a (suc n) = (Each-weaker (λ y. a < y) (λ y. y ≢ a) (λ y l. not_less a y l) (range_with_len (a + 1) n) (range_above a (a + 1) n (omega arith)), range_distinct (a + 1) n)

pub each_unmapped : {X Y : Type 0} (P : Y → Type 0) (f : X → Y) (xs : List X) → Each P (map f xs) → Each (λ x. P (f x)) xs
each_unmapped P f [] a = tt
each_unmapped P f (x ∷ xs) a = (a.0, each_unmapped P f xs a.1)

-- what is left of an agenda is of its repository
pub left_repo : (g : DriverInput) (r : ℕ) (ls : List BlockLine) (jobs : List ℕ) (x : Driver) → (takes_all g r ls jobs x).left.repo ≡ r
left_repo g r [] jobs x = refl
left_repo g r (Runs job ∷ ls) jobs x = go (left_repo g r ls ((begun_count x.past r + 1) ∷ jobs) (begins r job x)) (may_begin x r jobs)
  where
    go : (takes_all g r ls ((begun_count x.past r + 1) ∷ jobs) (begins r job x)).left.repo ≡ r → (b : Bool)
        → (if b then takes_all g r ls ((begun_count x.past r + 1) ∷ jobs) (begins r job x) else record { driver = x; left = record { repo = r; lines = Runs job ∷ ls; jobs = jobs } }).left.repo ≡ r
    go more true = more
    go more false = refl
left_repo g r (Crashes clock ∷ ls) jobs x = left_repo g r ls jobs (crashes g r clock x)
left_repo g r (Closes other ∷ ls) jobs x = go (left_repo g r ls jobs (closes g r other x)) (lacks_places x.past r other)
  where
    go : (takes_all g r ls jobs (closes g r other x)).left.repo ≡ r → (b : Bool)
        → (if b then record { driver = x; left = record { repo = r; lines = Closes other ∷ ls; jobs = jobs } } else takes_all g r ls jobs (closes g r other x)).left.repo ≡ r
    go more true = refl
    go more false = more
left_repo g r (Fails call ∷ ls) jobs x = left_repo g r ls jobs (will_fail r call x)

pub each_repos : (g : DriverInput) (ags : List Agenda) (x : Driver) → map (λ a. a.repo) (takes_each g ags x).left ≡ map (λ a. a.repo) ags
each_repos g [] x = refl
each_repos g (a ∷ ags) x = go (each_repos g ags y.driver) (lacks_next y.driver.past a.repo y.left.lines)
  where
    y : WithAgenda
    y = takes_all g a.repo a.lines a.jobs x

    go : map (λ (z : Agenda). z.repo) (takes_each g ags (takes_all g a.repo a.lines a.jobs x).driver).left ≡ map (λ (z : Agenda). z.repo) ags → (c : Bool)
        → map (λ (z : Agenda). z.repo) (if c then record { driver = (takes_all g a.repo a.lines a.jobs x).driver; left = (takes_all g a.repo a.lines a.jobs x).left ∷ ags }
        else and_left (takes_all g a.repo a.lines a.jobs x).left (takes_each g ags (takes_all g a.repo a.lines a.jobs x).driver)).left ≡ a.repo ∷ map (λ (z : Agenda). z.repo) ags
    go more true = ap (λ q. q ∷ map (λ (z : Agenda). z.repo) ags) (left_repo g a.repo a.lines a.jobs x)
    go more false = λ i. left_repo g a.repo a.lines a.jobs x i ∷ more i

-- what each round keeps, all keep
pub rounds_keep : (g : DriverInput) (P : InBlock → Type 0) → ((y : InBlock) → P y → P (block_round g y)) → (n : ℕ) (y : InBlock) → P y → P (block_rounds g n y)
rounds_keep g P f zero y p = f y p
rounds_keep g P f (suc n) y p = go (rounds_keep g P f n (block_rounds g n y) (rounds_keep g P f n y p)) (is_over y)
  where
    go : P (block_rounds g n (block_rounds g n y)) → (b : Bool) → P (if b then y else block_rounds g n (block_rounds g n y))
    go more true = p
    go more false = more

module _ (laws : Laws) (g : DriverInput) (xs : List Agendum) (d : Driver) where
  -- ---- a turn

  -- a step of r is a doing of r, and no other's
  turned : (x : Driver) → IsSound g x → x.tree ≡ d.tree → (r : ℕ) (e : Entry) → e.repo ≡ Some r → (words : ℕ → Option Word) → IsStep (set_up_of g x r) x.past words e
      → (es : List Entry) (fails : List FailLine) → x.past ≡ reverse es ++ d.past → (a : Agenda) → Did g xs d x.past es fails a → Did g xs d (e ∷ x.past) (es ++ e ∷ []) fails a
  turned x h tree r e who words made es fails past_is a did = go (is_of a.repo e) refl
    where
      by : (t : List TreeMark) → x.tree ≡ t → IsStep (set_up_with g r (paths_at t x.past r)) x.past words e
      by t i = subst (λ z. IsStep (set_up_with g r (paths_at z x.past r)) x.past words e) i made

      go : (b : Bool) → is_of a.repo e ≡ b → Did g xs d (e ∷ x.past) (es ++ e ∷ []) fails a
      go false i = did_other g xs d x.past es fails e a i did
      go true i =
          let same : r ≡ a.repo = eqb-true r a.repo (ap (λ o. option_is o a.repo) (sym who) ∙ i) in
          did_step g xs d x.past es fails a past_is e i words (subst (λ k. IsStep (set_up_with g k (paths_at d.tree x.past k)) x.past words e) same (by d.tree tree)) (numbers_begun g x h a.repo) did

  module _ (ags : List Agenda) (r : ℕ) (known : r < length g.repos) (c : Driver) (b : HasCome g d c (Doers g xs d ags)) where
    makes_come : (m : Effect) → step (set_up_of g c r) (state_at g c r) (plain_look (set_up_of g c r) c) ≡ Some m → (o : Option Effect)
        → step (set_up_of g c r) (state_at g c r) (look_for g c r (set_up_of g c r) (state_at g c r) m) ≡ o
        → HasBoundedPast (makes (state_at g c r) r (look_for g c r (set_up_of g c r) (state_at g c r) m) o c)
        → HasCome g d (makes (state_at g c r) r (look_for g c r (set_up_of g c r) (state_at g c r) m) o c) (Doers g xs d ags)
    makes_come m plain None e fits = b
    makes_come m plain (Some m') e fits =
        subst (λ (z : Driver). HasCome g d z (Doers g xs d ags)) (told_alike (state_at g c r) r m' (bytes_taken r m'.taken c) m'.kind (adds (state_at g c r) r made c))
        (one_more laws g d c (Doers g xs d ags) b before r known made (is_new laws g r known c m m' plain e h before) inside.0.0
        (λ ys zs. inl (is_chosen laws g r known c m m' plain e h before ys zs)) (fault_waits laws g r known c m m' plain e) (Doers g xs d ags)
        (λ es fails past_is all. Each-weaker (Did g xs d c.past es fails) (Did g xs d (made ∷ c.past) (es ++ made ∷ []) fails)
        (turned c h b.tree_is r made refl (look_for g c r (set_up_of g c r) (state_at g c r) m).words (is_step laws g r known c m m' plain e h before) es fails past_is) ags all))
      where
        made : Entry
        made = entry_of r (look_for g c r (set_up_of g c r) (state_at g c r) m) m'

        after : Driver
        after = store_after (state_at g c r) r m' (bytes_taken r m'.taken c) m'.kind (adds (state_at g c r) r (entry_of r (look_for g c r (set_up_of g c r) (state_at g c r) m) m') c)

        inside : HasBoundedPast (adds (state_at g c r) r (entry_of r (look_for g c r (set_up_of g c r) (state_at g c r) m) m') c)
        inside = fits_before (adds (state_at g c r) r made c) after
            (([], store_past (state_at g c r) r m' (bytes_taken r m'.taken c) m'.kind (adds (state_at g c r) r made c)), store_larger (state_at g c r) r m' (bytes_taken r m'.taken c) m'.kind (adds (state_at g c r) r made c)) fits

        before : HasBoundedPast c
        before = (inside.0.1, inside.1)

        h : IsSound g c
        h = b.keeps before

    looks_come : (o : Option Effect) → step (set_up_of g c r) (state_at g c r) (plain_look (set_up_of g c r) c) ≡ o → HasBoundedPast (looks g r (set_up_of g c r) (state_at g c r) o c)
        → HasCome g d (looks g r (set_up_of g c r) (state_at g c r) o c) (Doers g xs d ags)
    looks_come None e fits = b
    looks_come (Some m) e fits = makes_come m e (step (set_up_of g c r) (state_at g c r) (look_for g c r (set_up_of g c r) (state_at g c r) m)) refl fits

  turn_comes : (ags : List Agenda) (r : ℕ) → r < length g.repos → (x : Driver) → HasCome g d x (Doers g xs d ags) → HasBoundedPast (turn g r x) → HasCome g d (turn g r x) (Doers g xs d ags)
  turn_comes ags r known x b fits =
      let c : Driver = without_old_flights (state_at g x r) r x in
      looks_come ags r known c (cleared g d x (Doers g xs d ags) r known b) (step (set_up_of g c r) (state_at g c r) (plain_look (set_up_of g c r) c)) refl fits

  turns_come : (ags : List Agenda) (rs : List ℕ) → Each (λ r. r < length g.repos) rs → (x : Driver) → HasCome g d x (Doers g xs d ags) → HasBoundedPast (turns_of g rs x) → HasCome g d (turns_of g rs x) (Doers g xs d ags)
  turns_come ags [] known x b fits = b
  turns_come ags (r ∷ rs) known x b fits =
      turns_come ags rs known.1 (turn g r x) (turn_comes ags r known.0 x b (fits_before (turn g r x) (turns_of g rs (turn g r x)) (turns_of_within g rs (turn g r x)) fits)) fits

  round_comes : (ags : List Agenda) (x : Driver) → HasCome g d x (Doers g xs d ags) → HasBoundedPast (round g x) → HasCome g d (round g x) (Doers g xs d ags)
  round_comes ags x b fits = turns_come ags (numbers g) (below_len 0 (length g.repos) (length g.repos) (omega arith)) x b fits

  -- ---- all agendas

  each_comes : (ags front : List Agenda) (x : Driver) → AreDistinct (map (λ a. a.repo) ags) → Each (λ a. Each (λ b. b.repo ≢ a.repo) front) ags → Each (IsAgenda laws g) ags
      → HasCome g d x (Doers g xs d (front ++ ags)) → HasBoundedPast (takes_each g ags x).driver → HasCome g d (takes_each g ags x).driver (Doers g xs d (front ++ (takes_each g ags x).left))
  each_comes [] front x distinct apart all b fits = b
  each_comes (a ∷ ags) front x distinct apart all b fits = go (each_comes ags) (lacks_next y.driver.past a.repo y.left.lines) fits
    where
      y : WithAgenda
      y = takes_all g a.repo a.lines a.jobs x

      others : Each (λ z. z.repo ≢ a.repo) ags
      others = each_unmapped (λ q. q ≢ a.repo) (λ (z : Agenda). z.repo) ags distinct.0

      took : HasBoundedPast (takes_all g a.repo a.lines a.jobs x).driver → HasCome g d (takes_all g a.repo a.lines a.jobs x).driver (Doers g xs d (front ++ (takes_all g a.repo a.lines a.jobs x).left ∷ ags))
      took f = takes_come g xs d front ags a.repo apart.0 others laws all.0.0 a.lines a.jobs x all.0.1 b f

      -- those that come later are of none before them
      later : Each (λ z. Each (λ w. w.repo ≢ z.repo) (front ++ (takes_all g a.repo a.lines a.jobs x).left ∷ [])) ags
      later = Each-both (λ (z : Agenda). Each (λ (w : Agenda). w.repo ≢ z.repo) front) (λ (z : Agenda). z.repo ≢ a.repo) (λ (z : Agenda). Each (λ (w : Agenda). w.repo ≢ z.repo) (front ++ y.left ∷ []))
          (λ z n m. Each-push (λ (w : Agenda). w.repo ≢ z.repo) front y.left n (λ e. m (sym e ∙ left_repo g a.repo a.lines a.jobs x))) ags apart.1 others

      go : ((front : List Agenda) (x : Driver) → AreDistinct (map (λ (z : Agenda). z.repo) ags) → Each (λ (z : Agenda). Each (λ (w : Agenda). w.repo ≢ z.repo) front) ags → Each (IsAgenda laws g) ags
          → HasCome g d x (Doers g xs d (front ++ ags)) → HasBoundedPast (takes_each g ags x).driver → HasCome g d (takes_each g ags x).driver (Doers g xs d (front ++ (takes_each g ags x).left)))
          → (c : Bool)
          → HasBoundedPast (if c then record { driver = (takes_all g a.repo a.lines a.jobs x).driver; left = (takes_all g a.repo a.lines a.jobs x).left ∷ ags }
          else and_left (takes_all g a.repo a.lines a.jobs x).left (takes_each g ags (takes_all g a.repo a.lines a.jobs x).driver)).driver
          → HasCome g d (if c then record { driver = (takes_all g a.repo a.lines a.jobs x).driver; left = (takes_all g a.repo a.lines a.jobs x).left ∷ ags }
          else and_left (takes_all g a.repo a.lines a.jobs x).left (takes_each g ags (takes_all g a.repo a.lines a.jobs x).driver)).driver
          (Doers g xs d (front ++ (if c then record { driver = (takes_all g a.repo a.lines a.jobs x).driver; left = (takes_all g a.repo a.lines a.jobs x).left ∷ ags }
          else and_left (takes_all g a.repo a.lines a.jobs x).left (takes_each g ags (takes_all g a.repo a.lines a.jobs x).driver)).left))
      go more true f = took f
      go more false f =
          let inside = fits_before y.driver (takes_each g ags y.driver).driver (agendas_within g ags y.driver) f in
          subst (λ zs. HasCome g d (takes_each g ags y.driver).driver (Doers g xs d zs)) (append_assoc front (y.left ∷ []) (takes_each g ags y.driver).left)
          (more (front ++ y.left ∷ []) y.driver distinct.1 later all.1
          (subst (λ zs. HasCome g d y.driver (Doers g xs d zs)) (sym (append_assoc front (y.left ∷ []) ags)) (took inside)) f)

  -- ---- rounds of a block

  -- what holds of the driver within the block
  abbrev pub BlockComes : InBlock → Type 0
  BlockComes y = (Keeps g y.driver × Each (IsAgenda laws g) y.left) × (HasBoundedPast y.driver → HasCome g d y.driver (Doers g xs d y.left)) × (map (λ a. a.repo) y.left ≡ numbers g)

  nothing_before : (ags : List Agenda) → Each (λ a. Each (λ (b : Agenda). b.repo ≢ a.repo) []) ags
  nothing_before [] = tt
  nothing_before (a ∷ ags) = (tt, nothing_before ags)

  block_comes : (y : InBlock) → BlockComes y → BlockComes (block_round g y)
  block_comes y k = (keeps_block_round laws g y k.0, come (is_over y), repos (is_over y))
    where
      b : Block
      b = takes_each g y.left y.driver

      distinct : AreDistinct (map (λ a. a.repo) y.left)
      distinct = subst AreDistinct (sym k.2) (range_distinct 0 (length g.repos))

      took : HasBoundedPast (takes_each g y.left y.driver).driver → HasCome g d (takes_each g y.left y.driver).driver (Doers g xs d (takes_each g y.left y.driver).left)
      took f = each_comes y.left [] y.driver distinct (nothing_before y.left) k.0.1 (k.1 (fits_before y.driver b.driver (agendas_within g y.left y.driver) f)) f

      with_it : (c : Bool) → HasBoundedPast (if c then stuck_at (takes_each g y.left y.driver) else block_at y (takes_each g y.left y.driver) (round g (takes_each g y.left y.driver).driver)).driver
          → HasCome g d (if c then stuck_at (takes_each g y.left y.driver) else block_at y (takes_each g y.left y.driver) (round g (takes_each g y.left y.driver).driver)).driver
          (Doers g xs d (if c then stuck_at (takes_each g y.left y.driver) else block_at y (takes_each g y.left y.driver) (round g (takes_each g y.left y.driver).driver)).left)
      with_it true f = took f
      with_it false f = round_comes b.left b.driver (took (fits_before b.driver (round g b.driver) (round_within g b.driver) f)) f

      come : (c : Bool) → HasBoundedPast (if c then y else with_round g y (takes_each g y.left y.driver)).driver
          → HasCome g d (if c then y else with_round g y (takes_each g y.left y.driver)).driver (Doers g xs d (if c then y else with_round g y (takes_each g y.left y.driver)).left)
      come true f = k.1 f
      come false f = with_it (is_stuck b.driver b.left) f

      repos_with : (c : Bool) → map (λ (a : Agenda). a.repo) (if c then stuck_at (takes_each g y.left y.driver) else block_at y (takes_each g y.left y.driver) (round g (takes_each g y.left y.driver).driver)).left ≡ numbers g
      repos_with true = each_repos g y.left y.driver ∙ k.2
      repos_with false = each_repos g y.left y.driver ∙ k.2

      repos : (c : Bool) → map (λ (a : Agenda). a.repo) (if c then y else with_round g y (takes_each g y.left y.driver)).left ≡ numbers g
      repos true = k.2
      repos false = repos_with (is_stuck b.driver b.left)

  pub blocks_come : (n : ℕ) (y : InBlock) → BlockComes y → BlockComes (block_rounds g n y)
  blocks_come n y k = rounds_keep g BlockComes block_comes n y k

  pub repos_first : (rs : List ℕ) → map (λ (a : Agenda). a.repo) (map (agenda xs) rs) ≡ rs
  repos_first [] = refl
  repos_first (r ∷ rs) = ap (λ qs. r ∷ qs) (repos_first rs)

  -- so it is as the block begins
  pub block_begins : Each (IsAgendum g) xs → Keeps g d → BlockComes (record { driver = d; left = map (agenda xs) (numbers g); idle = 0; took = true })
  block_begins all k = (
    (k, agendas laws g xs all (numbers g) (below_len 0 (length g.repos) (length g.repos) (omega arith))),
    (λ f. begins_so g d (Doers g xs d (map (agenda xs) (numbers g))) k (did_none g xs d (numbers g))),
    repos_first (numbers g),
  )
