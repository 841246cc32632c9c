-- Each run that a script may have is sound, where it stays within bounds.
use Rattle.std.proofs.Common.{ap, ◌∙◌, ◌≡◌, ◌≤◌, Bool, true, false, List, [], ◌∷◌, ◌++◌, refl, sym, subst, arith}
use Rattle.std.specs.Prelude.{◌||◌, if◌then◌else◌, length}
use Rattle.std.proofs.lemmas.Bool.{or_parts}
use Rattle.annex_base.specs.Lists.{Each}
use Rattle.driver_model.specs.Driver.{Driver, DriverInput}
use Rattle.driver_model.specs.Driving.{does, drives, with_mark}
use Rattle.script_commands.specs.declared.command.Action.TheVariants.{Settle}
use Rattle.script_commands.specs.declared.command.Agendum.{Agendum}
use Rattle.script_commands.specs.declared.command.Command.{Command}
use Rattle.script_commands.specs.declared.command.Command.TheVariants.{Does, Par}
use Rattle.driver_model.specs.Limits.{asks_first, drives_to_limit, is_full, is_too_long, lacks_at, meets_limit}
use Rattle.driver_model.specs.Rounds.{InBlock, block_end, is_stuck, most_rounds, numbers, settles, settles_after}
use Rattle.driver_model.specs.Scripts.{HasBoundedPast, IsOne}
use Rattle.driver_model.proofs.Driven.{line_keys, keeps_line, keeps_marked}
use Rattle.driver_model.proofs.FullHistories.{not_too_long}
use Rattle.driver_model.proofs.Holding.{Keeps}
use Rattle.driver_model.proofs.LimitedRuns.{cut_at}
use Rattle.driver_model.proofs.Logged.{OwedKeys}
use Rattle.driver_model.proofs.Premises.{Laws}
use Rattle.block_model.specs.Blocks.{HasBegun, with_fails}
use Rattle.block_model.specs.Following.{after_entries}
use Rattle.block_model.specs.Leading.{HasPlaces, HavePlaces, IsSingle, LineLeads, LinesLead, block_of}
use Rattle.driver_model.proofs.Planned.{HasKeys}
use Rattle.block_model.proofs.DriverBlocks.{makes_block, short_before}
use Rattle.block_model.proofs.Merges.{left_same}
use Rattle.block_model.proofs.EntryStands.{keeps_entries, keeps_fails, keeps_old}
use Rattle.block_model.proofs.Within.{Within, after_within, drives_within, fits_before, mark_within, stays, then_within}

pub keeps_begun : Laws → (g : DriverInput) (xs : List Agendum) (d after : Driver) → HasBegun g xs d after → Keeps g d → Keeps g after
keeps_begun laws g xs d after x k = subst (Keeps g) (sym x.after_is)
    (keeps_old g (numbers g) (after_entries g x.entries (with_fails x.fails d)) (keeps_entries laws g x.entries (with_fails x.fails d) x.follow (keeps_fails g x.fails d k)))

-- a block leaves the tree as it is
pub begun_keys : (g : DriverInput) (xs : List Agendum) (d after : Driver) → HasBegun g xs d after → HasKeys d.tree → HasKeys after.tree
begun_keys g xs d after x tree = subst HasKeys (sym (ap (λ (z : Driver). z.tree) x.after_is ∙ (left_same g x.entries x.fails d).0)) tree

module _ (laws : Laws) (keys : OwedKeys) (g : DriverInput) where
  pub keys_it : (line : Command) (d after : Driver) → IsOne g line → HasKeys d.tree → after ≡ does g line d → HasKeys after.tree
  keys_it line d after one tree is = subst (λ (z : Driver). HasKeys z.tree) (sym is) (line_keys laws g line d one tree)

  pub keeps_it : (line : Command) (d after : Driver) → IsOne g line → HasKeys d.tree → after ≡ does g line d → Keeps g d → Keeps g after
  keeps_it line d after one tree is k = subst (Keeps g) (sym is) (keeps_line laws g keys line d one tree k)

  pub keys_leads : (line : Command) (d after : Driver) → IsOne g line → HasKeys d.tree → LineLeads g line d after → HasKeys after.tree
  keys_leads (Par xs) d after one tree x = keys_it (Does Settle) x.0 after tt (begun_keys g xs d x.0 x.1.begun tree) x.2
  keys_leads line d after one tree x = keys_it line d after one tree x

  pub keeps_leads : (line : Command) (d after : Driver) → IsOne g line → HasKeys d.tree → LineLeads g line d after → Keeps g d → Keeps g after
  keeps_leads (Par xs) d after one tree x k = keeps_it (Does Settle) x.0 after tt (begun_keys g xs d x.0 x.1.begun tree) x.2 (keeps_begun laws g xs d x.0 x.1.begun k)
  keeps_leads line d after one tree x k = keeps_it line d after one tree x k

  pub keeps_all : (lines : List Command) (d after : Driver) → Each (IsOne g) lines → HasKeys d.tree → LinesLead g lines d after → Keeps g d → Keeps g after
  keeps_all [] d after all tree x k = subst (Keeps g) (sym x) k
  keeps_all (line ∷ lines) d after all tree x k =
      keeps_all lines (with_mark x.0) after all.1 (keys_leads line d x.0 all.0 tree x.1) x.2 (keeps_marked laws g x.0 (keeps_leads line d x.0 all.0 tree x.1 k))

-- one more line
pub lead_on : (g : DriverInput) (lines : List Command) (line : Command) (first d after : Driver) → LinesLead g lines first d → LineLeads g line d after → LinesLead g (lines ++ line ∷ []) first (with_mark after)
lead_on g [] line first d after x y = (after, subst (λ k. LineLeads g line k after) x y, refl)
lead_on g (l ∷ lines) line first d after x y = (x.0, x.1, lead_on g lines line (with_mark x.0) d after x.2 y)

-- ---- the sequential driver

settled : (g : DriverInput) (x : InBlock) → is_stuck x.driver x.left ≡ false → settles_after g x ≡ settles g x.driver
settled g x is = ap (λ (b : Bool). if b then x.driver else settles g x.driver) is

-- what follows a block only adds to it
after_block : (g : DriverInput) (xs : List Agendum) (d : Driver) → Within (block_of g xs d) (does g (Par xs) d)
after_block g xs d = after_within g (block_of g xs d) (block_end g xs d) (stays (block_of g xs d))

module _ (laws : Laws) (keys : OwedKeys) (g : DriverInput) (sixteen : length g.repos ≤ 16) where
  does_lead : (line : Command) (d : Driver) → IsOne g line → Keeps g d → HasBoundedPast (does g line d) → is_too_long g (does g line d).past ≡ false → HasPlaces g line d → LineLeads g line d (does g line d)
  does_lead (Par xs) d one k fits short places = (
    block_of g xs d,
    makes_block laws g sixteen xs d one k most_rounds refl (fits_before (block_of g xs d) (does g (Par xs) d) (after_block g xs d) fits)
        (short_before g (block_of g xs d) (does g (Par xs) d) (after_block g xs d) short) places,
    settled g (block_end g xs d) places,
  )
  does_lead line d one k fits short places = refl

  pub drives_lead : (lines : List Command) (d : Driver) → Each (IsOne g) lines → HasKeys d.tree → Keeps g d → HasBoundedPast (drives g lines d) → is_too_long g (drives g lines d).past ≡ false → HavePlaces g lines d
      → LinesLead g lines d (drives g lines d)
  drives_lead [] d all tree k fits short places = refl
  drives_lead (line ∷ lines) d all tree k fits short places =
      let after : Driver = with_mark (does g line d) in
      let later = then_within (does g line d) after (drives g lines after) (mark_within (does g line d)) (drives_within g lines after) in (
        does g line d,
        does_lead line d all.0 k (fits_before (does g line d) (drives g lines after) later fits) (short_before g (does g line d) (drives g lines after) later short) places.0,
        drives_lead lines after all.1 (line_keys laws g line d all.0 tree) (keeps_marked laws g (does g line d) (keeps_line laws g keys line d all.0 tree k)) fits short places.1,
      )

-- ---- lines without blocks

single_lead : (g : DriverInput) (line : Command) (d : Driver) → IsSingle line → LineLeads g line d (does g line d)
single_lead g (Par xs) d x = absurd x
single_lead g line d x = refl

pub singles_lead : (g : DriverInput) (lines : List Command) (d : Driver) → Each IsSingle lines → LinesLead g lines d (drives g lines d)
singles_lead g [] d all = refl
singles_lead g (line ∷ lines) d all = (does g line d, single_lead g line d all.0, singles_lead g lines (with_mark (does g line d)) all.1)

-- ---- lines that meet no full history

has_places : (g : DriverInput) (line : Command) (d : Driver) → lacks_at g line d ≡ false → HasPlaces g line d
has_places g (Par xs) d i = i
has_places g line d i = tt

-- a run that isn't cut stays short, and no close in its blocks lacks places
pub uncut : (g : DriverInput) (lines : List Command) (d : Driver) → is_too_long g d.past ≡ false → (drives_to_limit g lines d).is_cut ≡ false → (is_too_long g (drives g lines d).past ≡ false) × HavePlaces g lines d
uncut g [] d short i = (short, tt)
uncut g (line ∷ lines) d short i = go (uncut g lines (with_mark (does g line d))) (meets_limit g line d) refl i
  where
    after : Driver
    after = with_mark (does g line d)

    go : (is_too_long g (does g line d).past ≡ false → (drives_to_limit g lines after).is_cut ≡ false → (is_too_long g (drives g lines after).past ≡ false) × HavePlaces g lines after)
        → (b : Bool) → meets_limit g line d ≡ b → (if b then cut_at g line d else drives_to_limit g lines after).is_cut ≡ false
        → (is_too_long g (drives g lines after).past ≡ false) × (HasPlaces g line d × HavePlaces g lines after)
    go more true m j = absurd (cc)
    go more false m j =
        let one = or_parts (is_full d.past (asks_first line)) (is_too_long g (does g line d).past || lacks_at g line d) m in
        let two = or_parts (is_too_long g (does g line d).past) (lacks_at g line d) one.1 in
        let rest = more two.0 j in
        (rest.0, (has_places g line d two.1, rest.1))

-- no history is too long at first
pub nothing_short : (g : DriverInput) → is_too_long g [] ≡ false
nothing_short g = not_too_long g [] (λ q known. omega arith)
