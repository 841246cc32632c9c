-- The run of a script up to the limit on histories: whole where no line meets it, and else one with a full history, or one that ends at a
-- close of too many ends.
use Rattle.std.proofs.Common.{◌≡◌, ℕ, ◌<◌, ◌≤◌, Bool, true, false, List, [], ◌∷◌, ◌⊎◌, inl, inr, refl, sym, subst, arith}
use Rattle.std.specs.Prelude.{◌||◌, if◌then◌else◌, length, reverse}
use Rattle.std.proofs.lemmas.Bool.{cases_Bool, leb-true}
use Rattle.std.proofs.lemmas.List.{reverse-reverse}
use Rattle.annex_base.specs.Lists.{Each}
use Rattle.annex_base.proofs.Lists.{Each-member}
use Rattle.run_data.specs.Histories.{most_entries}
use Rattle.run_data.specs.declared.entry.Entry.{Entry}
use Rattle.driver_model.specs.Driver.{Driver, DriverInput, at_first}
use Rattle.driver_model.specs.Driving.{does, drives, run_of, run_with, with_mark}
use Rattle.driver_model.specs.Limits.{HasClose, HasFull, LacksPlaces, LimitedRun, asks_first, count_of, drives_to_limit, is_full, is_too_long, lacks_at, limited_run, meets_limit, run_to_limit, within_limit}
use Rattle.script_commands.specs.declared.command.Action.TheVariants.{Have, SetPart, Add, Close}
use Rattle.script_commands.specs.declared.command.BlockLine.TheVariants.{Closes}
use Rattle.script_commands.specs.declared.command.Command.{Command}
use Rattle.script_commands.specs.declared.command.Command.TheVariants.{Does, Par}
use Rattle.driver_model.specs.Rounds.{InBlock, block_end, is_stuck, settles, settles_after}
use Rattle.driver_model.specs.Scripts.{IsAgendum, IsOne}
use Rattle.driver_model.specs.ScriptSteps.{closes_each, ends_at, lacks_places}
use Rattle.driver_model.specs.Sound.{OnlyAdds}
use Rattle.driver_model.proofs.Adding.{line_adds}
use Rattle.driver_model.proofs.Agendas.{agendum, stuck_close}
use Rattle.driver_model.proofs.FullHistories.{count_more, few_entries, keeps_whole, left_full, past_behind}

abbrev pub cut_at : DriverInput → Command → Driver → LimitedRun
cut_at g line d = record { run = run_to_limit g line d; is_cut = true }

-- ---- no line meets the limit

drives_whole : (g : DriverInput) (lines : List Command) (d : Driver) → (drives_to_limit g lines d).is_cut ≡ false → (drives_to_limit g lines d).run ≡ run_with g (drives g lines d)
drives_whole g [] d i = refl
drives_whole g (line ∷ lines) d i = go (drives_whole g lines (with_mark (does g line d))) (meets_limit g line d) i
  where
    after : Driver
    after = with_mark (does g line d)

    go : ((drives_to_limit g lines after).is_cut ≡ false → (drives_to_limit g lines after).run ≡ run_with g (drives g lines after)) → (b : Bool)
        → (if b then cut_at g line d else drives_to_limit g lines after).is_cut ≡ false → (if b then cut_at g line d else drives_to_limit g lines after).run ≡ run_with g (drives g lines after)
    go more true j = absurd (cc)
    go more false j = more j

pub whole_run : (g : DriverInput) (lines : List Command) → (limited_run g lines).is_cut ≡ false → (limited_run g lines).run ≡ run_of g lines
whole_run g lines i = drives_whole g lines at_first i

-- ---- a line meets it

just_so : (n a b : ℕ) → n ≤ a → a ≤ b → b ≤ n → b ≡ n
just_so n a b i j k = omega (arith, i, j, k)

-- a repository has made as many entries as it may, if not more
abbrev IsFilled : DriverInput → List Entry → Type 0
IsFilled g past = (r : ℕ) × (r < length g.repos) × (most_entries ≤ count_of past r)

asks_filled : (g : DriverInput) (line : Command) (d : Driver) → IsOne g line → is_full d.past (asks_first line) ≡ true → IsFilled g d.past
asks_filled g (Does (Have r key bytes)) d is full = (r, is.0, leb-true most_entries (count_of d.past r) full)
asks_filled g (Does (SetPart r key bytes)) d is full = (r, is, leb-true most_entries (count_of d.past r) full)
asks_filled g (Does (Add r path key bytes)) d is full = (r, is.0, leb-true most_entries (count_of d.past r) full)
asks_filled g line d is full = absurd (cc)

-- the line leaves the past as it is, where it stays within the limit
filled_stays : (g : DriverInput) (d after : Driver) → IsFilled g d.past → OnlyAdds d after → is_too_long g after.past ≡ false → HasFull g after.past
filled_stays g d after x adds short = (x.0, x.1, just_so most_entries (count_of d.past x.0) (count_of after.past x.0) x.2 more (few_entries g after.past short x.0 x.1))
  where
    more : count_of d.past x.0 ≤ count_of after.past x.0
    more = subst (λ (past : List Entry). count_of d.past x.0 ≤ count_of past x.0) (sym (past_behind d after adds)) (count_more x.0 (reverse adds.0) d.past)

-- the line comes to a close of too many ends
abbrev Lacks : DriverInput → Command → List Entry → Type 0
Lacks g line past = (r : ℕ) × (other : ℕ) × HasClose line r other × (r < length g.repos) × (lacks_places past r other ≡ true)

after_lacks : (g : DriverInput) (x : InBlock) (r other : ℕ) → is_stuck x.driver x.left ≡ true → lacks_places x.driver.past r other ≡ true → lacks_places (settles_after g x).past r other ≡ true
after_lacks g x r other i lacks = go (is_stuck x.driver x.left) i
  where
    go : (b : Bool) → b ≡ true → lacks_places (if b then x.driver else settles g x.driver).past r other ≡ true
    go true j = lacks
    go false j = absurd (cc)

never : false ≡ true → ⊥
never i = absurd (cc)

line_lacks : (g : DriverInput) (line : Command) (d : Driver) → IsOne g line → lacks_at g line d ≡ true → Lacks g line (does g line d).past
line_lacks g (Does (Close r other)) d is i = (r, other, (refl, refl), is.0, go (lacks_places d.past r other) i i)
  where
    go : (b : Bool) → b ≡ true → lacks_places d.past r other ≡ true → lacks_places (if b then d else closes_each g r (ends_at other) d).past r other ≡ true
    go true j k = k
    go false j k = absurd (cc)
line_lacks g (Par xs) d is i =
    let found = stuck_close g xs d i in
    (found.0, found.1, found.2, (Each-member (IsAgendum g) xs (agendum found.0 (Closes found.1)) is found.2).0, after_lacks g (block_end g xs d) found.0 found.1 i found.3)
line_lacks g line d is i = absurd (never i)

or_last : (a b c : Bool) → (a || (b || c)) ≡ true → b ≡ false → c ≡ false → a ≡ true
or_last true b c i j k = refl
or_last false b c i j k = absurd (cc)

-- the run ends with a full history, or at a close of too many ends
abbrev Ends : DriverInput → Command → List Entry → Type 0
Ends g line past = HasFull g past ⊎ Lacks g line past

cut_full : (g : DriverInput) (line : Command) (d : Driver) → IsOne g line → meets_limit g line d ≡ true → Ends g line (within_limit g (does g line d).past)
cut_full g line d is meets = elim (cases_Bool (is_too_long g (does g line d).past)) [
  | inl long ↦ inl (left_full g (does g line d).past long)
  | inr short ↦ subst (Ends g line) (sym (keeps_whole g (does g line d).past short)) (elim (cases_Bool (lacks_at g line d)) [
    | inl lacks ↦ inr (line_lacks g line d is lacks)
    | inr enough ↦ inl (filled_stays g d (does g line d)
        (asks_filled g line d is (or_last (is_full d.past (asks_first line)) (is_too_long g (does g line d).past) (lacks_at g line d) meets short enough)) (line_adds g line d).0 short)
  ])
]

abbrev CutsSo : DriverInput → List Command → List Entry → Type 0
CutsSo g lines past = HasFull g past ⊎ LacksPlaces g lines past

first_so : (g : DriverInput) (line : Command) (lines : List Command) (past : List Entry) → Ends g line past → CutsSo g (line ∷ lines) past
first_so g line lines past (inl full) = inl full
first_so g line lines past (inr x) = inr (record { line = line; among = inl refl; repo = x.0; other = x.1; closes = x.2; known = x.3; lacks = x.4 })

later_so : (g : DriverInput) (line : Command) (lines : List Command) (past : List Entry) → CutsSo g lines past → CutsSo g (line ∷ lines) past
later_so g line lines past (inl full) = inl full
later_so g line lines past (inr x) = inr (record { line = x.line; among = inr x.among; repo = x.repo; other = x.other; closes = x.closes; known = x.known; lacks = x.lacks })

drives_cut : (g : DriverInput) (lines : List Command) (d : Driver) → Each (IsOne g) lines → (drives_to_limit g lines d).is_cut ≡ true → CutsSo g lines (reverse (drives_to_limit g lines d).run.entries)
drives_cut g [] d all i = absurd (cc)
drives_cut g (line ∷ lines) d all i = go (drives_cut g lines (with_mark (does g line d)) all.1) (meets_limit g line d) refl i
  where
    after : Driver
    after = with_mark (does g line d)

    go : ((drives_to_limit g lines after).is_cut ≡ true → CutsSo g lines (reverse (drives_to_limit g lines after).run.entries)) → (b : Bool) → meets_limit g line d ≡ b
        → (if b then cut_at g line d else drives_to_limit g lines after).is_cut ≡ true → CutsSo g (line ∷ lines) (reverse (if b then cut_at g line d else drives_to_limit g lines after).run.entries)
    go more true m j = first_so g line lines _ (subst (Ends g line) (sym (reverse-reverse (within_limit g (does g line d).past))) (cut_full g line d all.0 m))
    go more false m j = later_so g line lines _ (more j)

pub cut_run : (g : DriverInput) (lines : List Command) → Each (IsOne g) lines → (limited_run g lines).is_cut ≡ true → CutsSo g lines (reverse (limited_run g lines).run.entries)
cut_run g lines all i = drives_cut g lines at_first all i
