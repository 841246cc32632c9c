-- What is left of the agendas of a block are lines of the block; and where one is a close that lacks places, which one.
use Rattle.std.proofs.Common.{◌≡◌, ℕ, zero, suc, ◌+◌, Bool, true, false, List, [], ◌∷◌, inl, inr, refl, subst}
use Rattle.std.specs.Prelude.{cond, if◌then◌else◌, ◌==◌, filter, map}
use Rattle.std.proofs.lemmas.Bool.{eqb-true}
use Rattle.annex_base.specs.Lists.{Each, Member}
use Rattle.annex_base.proofs.Lists.{Each-member, list_any_found}
use Rattle.run_data.specs.declared.entry.Entry.{Entry}
use Rattle.run_model.specs.Past.{begun_count}
use Rattle.driver_model.specs.Driver.{Driver, DriverInput}
use Rattle.script_commands.specs.declared.command.Agendum.{Agendum}
use Rattle.script_commands.specs.declared.command.BlockLine.{BlockLine}
use Rattle.script_commands.specs.declared.command.BlockLine.TheVariants.{Runs, Crashes, Closes, Fails}
use Rattle.driver_model.specs.Rounds.{Agenda, Block, InBlock, agenda, and_left, block_at, block_end, block_round, block_rounds, is_over, is_stuck, lacks_next, lines_for, may_begin, most_rounds, numbers, round, stuck_at, takes, takes_all, takes_each, with_round}
use Rattle.driver_model.specs.ScriptSteps.{begins, closes, crashes, lacks_places, will_fail}

abbrev pub agendum : ℕ → BlockLine → Agendum
agendum r line = record { repo = r; line = line }

module _ (g : DriverInput) (xs : List Agendum) where
  abbrev pub IsOf : ℕ → BlockLine → Type 0
  IsOf r line = Member (agendum r line) xs

  abbrev pub AreOf : Agenda → Type 0
  AreOf a = Each (IsOf a.repo) a.lines

  -- ---- at first

  lines_of : (r : ℕ) (ys : List Agendum) → ((x : Agendum) → Member x ys → Member x xs) → Each (IsOf r) (lines_for r ys)
  lines_of r [] within = tt
  lines_of r (x ∷ ys) within = go (lines_of r ys (λ y m. within y (inr m))) (x.repo == r) refl
    where
      go : Each (IsOf r) (lines_for r ys) → (b : Bool) → (x.repo == r) ≡ b → Each (IsOf r) (map (λ (x : Agendum). x.line) (cond b (x ∷ filter (λ (x : Agendum). x.repo == r) ys) (filter (λ (x : Agendum). x.repo == r) ys)))
      go more true i = (subst (λ k. IsOf k x.line) (eqb-true x.repo r i) (within x (inl refl)), more)
      go more false i = more

  agendas_of : (rs : List ℕ) → Each AreOf (map (agenda xs) rs)
  agendas_of [] = tt
  agendas_of (r ∷ rs) = (lines_of r xs (λ x m. m), agendas_of rs)

  -- ---- as the block goes on

  takes_of : (r : ℕ) (ls : List BlockLine) (jobs : List ℕ) (d : Driver) → Each (IsOf r) ls → AreOf (takes_all g r ls jobs d).left
  takes_of r [] jobs d all = tt
  takes_of r (Runs job ∷ ls) jobs d all = go (takes_of r ls ((begun_count d.past r + 1) ∷ jobs) (begins r job d) all.1) (may_begin d r jobs)
    where
      go : AreOf (takes_all g r ls ((begun_count d.past r + 1) ∷ jobs) (begins r job d)).left → (b : Bool)
          → AreOf (if b then takes_all g r ls ((begun_count d.past r + 1) ∷ jobs) (begins r job d) else record { driver = d; left = record { repo = r; lines = Runs job ∷ ls; jobs = jobs } }).left
      go more true = more
      go more false = all
  takes_of r (Crashes clock ∷ ls) jobs d all = takes_of r ls jobs (crashes g r clock d) all.1
  takes_of r (Closes other ∷ ls) jobs d all = go (takes_of r ls jobs (closes g r other d) all.1) (lacks_places d.past r other)
    where
      go : AreOf (takes_all g r ls jobs (closes g r other d)).left → (b : Bool)
          → AreOf (if b then record { driver = d; left = record { repo = r; lines = Closes other ∷ ls; jobs = jobs } } else takes_all g r ls jobs (closes g r other d)).left
      go more true = all
      go more false = more
  takes_of r (Fails call ∷ ls) jobs d all = takes_of r ls jobs (will_fail r call d) all.1

  each_of : (ags : List Agenda) (d : Driver) → Each AreOf ags → Each AreOf (takes_each g ags d).left
  each_of [] d all = tt
  each_of (a ∷ ags) d all = go (lacks_next (takes g a d).driver.past a.repo (takes g a d).left.lines) (each_of ags (takes g a d).driver all.1)
    where
      one : AreOf (takes g a d).left
      one = takes_of a.repo a.lines a.jobs d all.0

      go : (b : Bool) → Each AreOf (takes_each g ags (takes g a d).driver).left
          → Each AreOf (if b then record { driver = (takes g a d).driver; left = (takes g a d).left ∷ ags } else and_left (takes g a d).left (takes_each g ags (takes g a d).driver)).left
      go true rest = (one, all.1)
      go false rest = (one, rest)

  with_round_of : (x : InBlock) (b : Block) → Each AreOf b.left → Each AreOf (with_round g x b).left
  with_round_of x b all = go (is_stuck b.driver b.left)
    where
      go : (c : Bool) → Each AreOf (if c then stuck_at b else block_at x b (round g b.driver)).left
      go true = all
      go false = all

  round_of : (x : InBlock) → Each AreOf x.left → Each AreOf (block_round g x).left
  round_of x all = go (is_over x)
    where
      go : (b : Bool) → Each AreOf (if b then x else with_round g x (takes_each g x.left x.driver)).left
      go true = all
      go false = with_round_of x (takes_each g x.left x.driver) (each_of x.left x.driver all)

  rounds_of : (n : ℕ) (x : InBlock) → Each AreOf x.left → Each AreOf (block_rounds g n x).left
  rounds_of zero x all = round_of x all
  rounds_of (suc n) x all = go (rounds_of n (block_rounds g n x) (rounds_of n x all)) (is_over x)
    where
      go : Each AreOf (block_rounds g n (block_rounds g n x)).left → (b : Bool) → Each AreOf (if b then x else block_rounds g n (block_rounds g n x)).left
      go more true = all
      go more false = more

  -- ---- at the end

  -- a close of the block lacks places
  abbrev pub FindsClose : List Entry → Type 0
  FindsClose past = (r : ℕ) × (other : ℕ) × IsOf r (Closes other) × (lacks_places past r other ≡ true)

  next_close : (past : List Entry) (r : ℕ) (ls : List BlockLine) → Each (IsOf r) ls → lacks_next past r ls ≡ true → FindsClose past
  next_close past r (Closes other ∷ ls) all i = (r, other, all.0, i)
  next_close past r ls all i = absurd (cc)

  pub stuck_close : (d : Driver) → is_stuck (block_end g xs d).driver (block_end g xs d).left ≡ true → FindsClose (block_end g xs d).driver.past
  stuck_close d i =
      let past : List Entry = (block_end g xs d).driver.past in
      let found = list_any_found (λ (a : Agenda). lacks_next past a.repo a.lines) (block_end g xs d).left i in
      let all = rounds_of most_rounds (record { driver = d; left = map (agenda xs) (numbers g); idle = 0; took = true }) (agendas_of (numbers g)) in
      next_close past found.0.repo found.0.lines (Each-member AreOf (block_end g xs d).left found.0 all found.1) found.2
