-- A line that meets a full history, and one that doesn't.
use Rattle.std.proofs.Common.{◌≡◌, ℕ, ◌<◌, ◌≤◌, ◌⊎◌, inl, inr, Bool, true, false, List, Some, None, Result, Ok, Err, length, refl, sym, ap, ◌∙◌, subst, arith}
use Rattle.std.specs.Prelude.{◌||◌, OnOk, nat_le, reverse, slice_get}
use Rattle.std.proofs.lemmas.Bool.Decides.{nat_tests}
use Rattle.std.proofs.lemmas.List.{reverse-reverse}
use Rattle.std.proofs.lemmas.Bool.{lt-leb, or_from, or_left, or_right}
use Rattle.annex_base.proofs.Lists.{slice_get-within}
use Rattle.run_data.specs.Histories.{most_entries}
use Rattle.run_data.specs.declared.entry.Entry.{Entry}
use Rattle.run_data.specs.declared.run.Run.{Run}
use Rattle.run_model.specs.Run.{IsRun}
use Rattle.script_commands.specs.declared.command.Action.{Action}
use Rattle.script_commands.specs.declared.command.Command.{Command}
use Rattle.driver_model.specs.Driver.{Driver, DriverInput}
use Rattle.driver_model.specs.Driving.{does}
use Rattle.driver_model.specs.ScriptSteps.{enters, lacks_places}
use Rattle.driver_model.specs.Limits.{StopsAtFull, asks_first, count_of, is_full, is_too_long, lacks_at, names_path, run_to_limit, within_limit}
use Rattle.driver_script.specs.Lines.{is_built}
use Rattle.fleet_entries.specs.Nodes.{NodeView}
use Rattle.fleet_entries.specs.Stored.{StoreView}
use Rattle.fleet_entries.specs.Fleets.{FleetView}
use Rattle.fleet_run.specs.Commands.{CutsAt, HasRoomFor, LacksForClose, MeetsNone, does_command}
use Rattle.fleet_entries.specs.AtDriver.{ClosesNone, EndsAtFull, GoesOn, HasPlaces, HasRoom, IsAtDriver, OnlyAddsEntries, WaitsForRoom}
use Rattle.fleet_entries.specs.Telling.{AreFew}
use Rattle.script_commands.specs.declared.command.Action.TheVariants as actions
use Rattle.script_commands.specs.declared.command.Command.TheVariants as commands
use Rattle.fleet_run.proofs.Commands.{IsQuiet}
use Rattle.fleet_entries.proofs.Full.{counted, each_at, only_entries}
use Rattle.fleet_entries.proofs.Called.{past_of}

-- ---- the lines that are built

-- a content or a part is placed, or ends are closed
abbrev pub is_asking : Action → Bool
is_asking (actions.Have r key content) = true
is_asking (actions.SetPart r key content) = true
is_asking (actions.Add r path key content) = true
is_asking (actions.Close r other) = true
is_asking action = false

others_ask : (action : Action) → is_built (commands.Does action) ≡ true → is_asking action ≡ false → asks_first (commands.Does action) ≡ None
others_ask (actions.Have r key content) built other = absurd (cc)
others_ask (actions.Add r path key content) built other = absurd (cc)
others_ask (actions.SetPart r key content) built other = absurd (cc)
others_ask action built other = refl

others_lack : (g : DriverInput) (action : Action) (d : Driver) → is_asking action ≡ false → lacks_at g (commands.Does action) d ≡ false
others_lack g (actions.Close r other) d unasked = absurd (cc)
others_lack g action d unasked = refl

-- ---- no full history is met

-- the action asks for nothing first
pub room_unasked : {K : Type 0} (tells : K → StoreView) (action form : Action) (was : FleetView K) → action ≡ form → is_built (commands.Does action) ≡ true → is_asking form ≡ false → HasRoomFor tells (commands.Does action) was
room_unasked tells action form was is built other g d stands = (ap (is_full d.past) (others_ask action built (ap is_asking is ∙ other)), others_lack g action d (ap is_asking is ∙ other))

-- a command has room where its form has
pub room_as : {K : Type 0} (tells : K → StoreView) (command form : Command) (was : FleetView K) → command ≡ form → HasRoomFor tells form was → HasRoomFor tells command was
room_as tells command form was is room = subst (λ (x : Command). HasRoomFor tells x was) (sym is) room

-- nor does a line that declares or shows something
pub room_quiet : {K : Type 0} (tells : K → StoreView) (command : Command) (was : FleetView K) → IsQuiet command → HasRoomFor tells command was
room_quiet tells command was (inl h) g d stands = (ap (λ (x : Command). is_full d.past (asks_first x)) h.5, ap (λ (x : Command). lacks_at g x d) h.5)
room_quiet tells command was (inr h) g d stands = (ap (λ (x : Command). is_full d.past (asks_first x)) h.1, ap (λ (x : Command). lacks_at g x d) h.1)

is_now_full : (n k : ℕ) → k ≡ n → nat_le n k ≡ true
is_now_full n k e = grind (arith, nat_tests)

-- the repository that is asked first has room
pub room_asked : {K : Type 0} (tells : K → StoreView) (r : ℕ) (action form : Action) (was : FleetView K) → action ≡ form → asks_first (commands.Does form) ≡ Some r
    → ((g : DriverInput) (d : Driver) → lacks_at g (commands.Does form) d ≡ false) → HasRoom tells r was → HasRoomFor tells (commands.Does action) was
room_asked tells r action form was is asks lacks room g d stands = (
  ap (λ (a : Action). is_full d.past (asks_first (commands.Does a))) is ∙ (ap (is_full d.past) asks ∙ lt-leb most_entries (count_of d.past r) (room g d stands)),
  ap (λ (a : Action). lacks_at g (commands.Does a) d) is ∙ lacks g d,
)

-- the repository has places for the entries of a close
pub room_closed : {K : Type 0} (tells : K → StoreView) (r other : ℕ) (action : Action) (was : FleetView K) → action ≡ actions.Close r other → HasPlaces tells r other was → HasRoomFor tells (commands.Does action) was
room_closed tells r other action was is places g d stands =
    (ap (λ (a : Action). is_full d.past (asks_first (commands.Does a))) is, ap (λ (a : Action). lacks_at g (commands.Does a) d) is ∙ places g d stands)

pub meets_none : {K : Type 0} (tells : K → StoreView) (command : Command) (was after : FleetView K) → is_built command ≡ true
    → ((g : DriverInput) (past : List Entry) → ((q : ℕ) → q < length g.repos → count_of past q ≤ most_entries) → is_too_long g past ≡ false)
    → HasRoomFor tells command was → GoesOn tells (does_command command) was after → AreFew after.nodes → MeetsNone tells command was
meets_none {K} tells command was after built law room goes few g d stands =
    or_from (is_full d.past (asks_first command)) (is_too_long g (does g command d).past || lacks_at g command d) (room g d stands).0
    (or_from (is_too_long g (does g command d).past) (lacks_at g command d) (law g (does g command d).past made) (room g d stands).1)
  where
    then : IsAtDriver tells g (does g command d) after
    then = goes g d stands

    made : (q : ℕ) → q < length g.repos → count_of (does g command d).past q ≤ most_entries
    made q known =
        let found : (n : NodeView K) × (slice_get after.nodes q ≡ Some n) = slice_get-within after.nodes q (subst (λ (c : ℕ). q < c) (sym then.come.count) known) in
        subst (λ (k : ℕ). k ≤ most_entries) (sym (counted tells g (does g command d) q found.0 (then.come.each q found.0 found.1)))
        (each_at (λ (n : NodeView K). length n.history ≤ most_entries) after.nodes q found.0 few found.1)

-- ---- a full history is met

-- the laws of a run that is cut
pub record CutLaws : Type 0 where
  pub cut : (g : DriverInput) (r : ℕ) (after : Driver) (run : Run) → StopsAtFull g r after run → is_too_long g after.past ≡ true
  pub entries : (g : DriverInput) (r : ℕ) (after : Driver) (run : Run) → StopsAtFull g r after run → reverse (within_limit g after.past) ≡ run.entries
  pub marks : (g : DriverInput) (command : Command) (d : Driver) → (does g command d).marks ≡ d.marks
  pub tree : (g : DriverInput) (command : Command) (d : Driver) → names_path command ≡ false → (does g command d).tree ≡ d.tree

-- the run is the driver's up to there, where its entries are
cut_run : {K : Type 0} (tells : K → StoreView) → CutLaws → (command : Command) → names_path command ≡ false → (was after : FleetView K) (g : DriverInput) (d : Driver) → IsAtDriver tells g d was
    → OnlyAddsEntries was after → reverse (within_limit g (does g command d).past) ≡ after.run.entries → after.run ≡ run_to_limit g command d
cut_run {K} tells laws command none was after g d stands rest entries =
    only_entries was after rest ∙ (ap (λ (run : Run). record run { entries = after.run.entries }) stands.come.run
    ∙ (λ i. record { repos = g.repos; entries = sym entries i; tree = sym (laws.tree g command d none) i; marks = sym (laws.marks g command d) i }))

pub cuts : {K : Type 0} (tells : K → StoreView) → CutLaws → (r : ℕ) (command : Command) → names_path command ≡ false → (was after : FleetView K) → EndsAtFull tells r (does_command command) was after
    → OnlyAddsEntries was after → CutsAt tells r command was after
cuts {K} tells laws r command none was after ends rest g d stands = record {
  meets = or_right (is_full d.past (asks_first command)) (is_too_long g (does g command d).past || lacks_at g command d)
      (or_left (is_too_long g (does g command d).past) (lacks_at g command d) (laws.cut g r (does g command d) after.run stops));
  run_is = cut_run tells laws command none was after g d stands rest (laws.entries g r (does g command d) after.run stops);
  lawful = stops.lawful;
  full = inl (subst (λ (past : List Entry). count_of past r ≡ most_entries) (sym (ap reverse stops.entries ∙ reverse-reverse stops.past)) stops.full);
}
  where
    stops : StopsAtFull g r (does g command d) after.run
    stops = ends g d stands

-- it asks a repository that has made all its entries
cuts_unasked : {K : Type 0} (tells : K → StoreView) → CutLaws → (r : ℕ) (command : Command) → names_path command ≡ false → asks_first command ≡ Some r → (was after : FleetView K)
    → WaitsForRoom tells r (does_command command) was after → OnlyAddsEntries was after → CutsAt tells r command was after
cuts_unasked {K} tells laws r command none asks was after waits rest g d stands = record {
  meets = or_left (is_full d.past (asks_first command)) (is_too_long g (does g command d).past || lacks_at g command d)
      (ap (is_full d.past) asks ∙ is_now_full most_entries (count_of d.past r) (waits.full g d stands));
  run_is = cut_run tells laws command none was after g d stands rest
      (ap reverse (waits.past g d stands) ∙ sym (ap (λ (run : Run). run.entries) (waits.run ∙ stands.come.run)));
  lawful = subst IsRun (sym (waits.run ∙ stands.come.run)) stands.come.sound.run;
  full = inl (subst (λ (past : List Entry). count_of past r ≡ most_entries) (sym (ap (λ (run : Run). reverse run.entries) waits.run ∙ past_of tells g d was stands.come)) (waits.full g d stands));
}

-- likewise, where that is the one that was refused
pub unasked_cuts : {K : Type 0} (tells : K → StoreView) → CutLaws → (r q : ℕ) (command : Command) → names_path command ≡ false → asks_first command ≡ Some r → (was after : FleetView K)
    → (q ≡ r) × WaitsForRoom tells r (does_command command) was after → OnlyAddsEntries was after → CutsAt tells q command was after
unasked_cuts tells laws r q command none asks was after waits rest = subst (λ (k : ℕ). CutsAt tells k command was after) (sym waits.0) (cuts_unasked tells laws r command none asks was after waits.1 rest)

-- the content that is placed
abbrev placing : ℕ → List ℕ → List ℕ → Command
placing r key content = commands.Does (actions.Have r key content)

pub have_cuts : {K : Type 0} (tells : K → StoreView) → CutLaws → (r q : ℕ) (key content : List ℕ) (was after : FleetView K)
    → EndsAtFull tells q (does_command (placing r key content)) was after ⊎ ((q ≡ r) × WaitsForRoom tells r (does_command (placing r key content)) was after) → OnlyAddsEntries was after
    → CutsAt tells q (placing r key content) was after
have_cuts tells laws r q key content was after (inl ends) rest = cuts tells laws q (placing r key content) refl was after ends rest
have_cuts tells laws r q key content was after (inr waits) rest = unasked_cuts tells laws r q (placing r key content) refl refl was after waits rest

-- ---- a close lacks places

-- the ends that are closed
abbrev closing : ℕ → ℕ → Command
closing r other = commands.Does (actions.Close r other)

-- none is closed, and the run ends there
pub cuts_closed : {K : Type 0} (tells : K → StoreView) → CutLaws → (q r other : ℕ) (was after : FleetView K) → (q ≡ r) × ClosesNone tells r other was after → OnlyAddsEntries was after → CutsAt tells q (closing r other) was after
cuts_closed {K} tells laws q r other was after none rest g d stands = record {
  meets = or_right (is_full d.past None) (is_too_long g (does g (closing r other) d).past || lacks_places d.past r other)
      (or_right (is_too_long g (does g (closing r other) d).past) (lacks_places d.past r other) (none.1.lacks g d stands));
  run_is = cut_run tells laws (closing r other) refl was after g d stands rest
      (ap reverse (none.1.past g d stands) ∙ sym (ap (λ (run : Run). run.entries) (none.1.run ∙ stands.come.run)));
  lawful = subst IsRun (sym (none.1.run ∙ stands.come.run)) stands.come.sound.run;
  full = inr (
    other,
    (none.0, refl),
    subst (λ (past : List Entry). lacks_places past q other ≡ true) (sym (ap (λ (run : Run). reverse run.entries) none.1.run ∙ past_of tells g d was stands.come))
        (subst (λ (k : ℕ). lacks_places d.past k other ≡ true) (sym none.0) (none.1.lacks g d stands)),
  );
}

-- ---- a path is named, and then a content is placed

-- the file that is added
abbrev adding : ℕ → List ℕ → List ℕ → List ℕ → Command
adding r path key content = commands.Does (actions.Add r path key content)

-- what the path leaves as it was, the content finds
pub room_added : {K : Type 0} (tells : K → StoreView) (r : ℕ) (path key content : List ℕ) (was mid : FleetView K) → GoesOn tells (λ g d. enters path key d) was mid → HasRoom tells r mid → HasRoomFor tells (adding r path key content) was
room_added tells r path key content was mid goes room g d stands = (lt-leb most_entries (count_of d.past r) (room g (enters path key d) (goes g d stands)), refl)

-- neither line closes ends
as_added : (r q : ℕ) (path key content : List ℕ) (past : List Entry) → (count_of past q ≡ most_entries) ⊎ LacksForClose (placing r key content) q past → (count_of past q ≡ most_entries) ⊎ LacksForClose (adding r path key content) q past
as_added r q path key content past (inl full) = inl full
as_added r q path key content past (inr lacks) = absurd (lacks.1)

pub added_cuts : {K : Type 0} (tells : K → StoreView) → CutLaws → (r q : ℕ) (path key content : List ℕ) (was mid after : FleetView K) → GoesOn tells (λ g d. enters path key d) was mid
    → EndsAtFull tells q (does_command (placing r key content)) mid after ⊎ ((q ≡ r) × WaitsForRoom tells r (does_command (placing r key content)) mid after) → OnlyAddsEntries mid after
    → CutsAt tells q (adding r path key content) was after
added_cuts {K} tells laws r q path key content was mid after goes ends rest g d stands =
    let cut = have_cuts tells laws r q key content mid after ends rest g (enters path key d) (goes g d stands) in
    record { meets = cut.meets; run_is = cut.run_is; lawful = cut.lawful; full = as_added r q path key content (reverse after.run.entries) cut.full }

-- a command is cut as its form is
pub cut_as : {K : Type 0} (tells : K → StoreView) (r : ℕ) (command form : Command) (was after : FleetView K) → command ≡ form → CutsAt tells r form was after → CutsAt tells r command was after
cut_as tells r command form was after is cuts = subst (λ (x : Command). CutsAt tells r x was after) (sym is) cuts

-- the driver's step ends where its form's does
pub form_ends : {K : Type 0} (tells : K → StoreView) → CutLaws → (r : ℕ) (action form : Action) (was after : FleetView K) → action ≡ form → names_path (commands.Does form) ≡ false
    → EndsAtFull tells r (does_command (commands.Does form)) was after → OnlyAddsEntries was after → CutsAt tells r (commands.Does action) was after
form_ends tells laws r action form was after is none ends rest =
    cut_as tells r (commands.Does action) (commands.Does form) was after (ap commands.Does is)
    (cuts tells laws r (commands.Does form) none was after ends rest)

-- what holds whatever was answered
pub always_ok : {X E : Type 0} (done : Result X E) (P : Type 0) → P → OnOk done P
always_ok (Ok x) P holds = holds
always_ok (Err e) P holds = tt
