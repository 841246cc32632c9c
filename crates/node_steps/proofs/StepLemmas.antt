-- What stands beside a history stays so after a step of its sessions or its jobs.
use Rattle.std.proofs.Common.{◌≡◌, ℕ, ◌<◌, ◌+◌, Bool, true, false, List, [], ◌∷◌, ◌++◌, All, Option, Some, None, length, map, reverse, find, is_some, refl, sym, subst, arith, ◌∙◌, ap}
use Rattle.std.specs.Prelude.{◌==◌, if◌then◌else◌, flat_map, option_to_list}
use Rattle.std.specs.Option.{ForSome, option_and_then, option_map, unwrap_or}
use Rattle.std.proofs.lemmas.Bool.{ne_eqb}
use Rattle.std.proofs.lemmas.List.{length-append, length-reverse, reverse-append}
use Rattle.annex_base.specs.Lists.{Each}
use Rattle.annex_base.specs.declared.kinds.Call.{Call}
use Rattle.annex_base.specs.declared.kinds.Call.TheVariants.{PutFile}
use Rattle.annex_base.specs.declared.kinds.Word.{Word}
use Rattle.annex_base.proofs.Conditions.{eqb_refl}
use Rattle.annex_base.proofs.Lists.{Each-both, Each-weaker}
use Rattle.annex_base.proofs.Options.{map_some}
use Rattle.run_data.specs.declared.entry.Entry.{Entry}
use Rattle.run_data.specs.declared.entry.EntryKind.{EntryKind}
use Rattle.run_data.specs.declared.entry.EntryKind.TheVariants.{Crash, Fault, Gain, Gone, Log, Talk}
use Rattle.run_data.specs.declared.entry.By.{By}
use Rattle.run_data.specs.declared.entry.By.TheVariants.{Script, Job as by_job, Peer}
use Rattle.run_data.specs.declared.run.RepoView.{RepoView}
use Rattle.object_store.specs.Stores.{Contents, Parts as StoredParts}
use Rattle.content_lock.specs.Rows.{is_filling}
use Rattle.union_merge.specs.Branch.{Files}
use Rattle.link_ring.specs.Ends.{EndView}
use Rattle.node_ends.specs.Ends.{SeesEnds, hand_at, room_at}
use Rattle.node_model.specs.After.{clock_after, state_after, states}
use Rattle.node_model.specs.Clocks.{ClockSet}
use Rattle.node_model.specs.AnyTime.{all_ends}
use Rattle.node_model.specs.Jobs.{Work}
use Rattle.node_model.specs.Look.{Look, Effect, as_told, entry_of, failed_in}
use Rattle.node_model.specs.OwedLines.{OwedLine, owed_after, owed_without, told_frame}
use Rattle.node_model.specs.Rows.{bar_after, holds_after}
use Rattle.node_model.specs.SessionStep.{is_filled}
use Rattle.node_model.specs.SetUp.{SetUp}
use Rattle.node_model.specs.State.{State}
use Rattle.owed_lines.specs.Lines.{line_of}
use Rattle.owed_lines.specs.declared.line.ToldLine.{ToldLine}
use Rattle.node_parts.specs.Task.{Task}
use Rattle.node_parts.specs.Task.TheVariants as tasks
use Rattle.node_parts.specs.Tasks.{HasReadOf, number_of, work_now}
use Rattle.node_parts.specs.Workers.{work_of}
use Rattle.node_parts.specs.Running.{AllApart, AreApart, HadPathsOf, given_to, job_at, paths_of}
use Rattle.node_parts.specs.declared.done.Done.{Done}
use Rattle.node_parts.specs.Kinds.{IsQuiet}
use Rattle.node_parts.specs.Parts.{AreParts, HasContents, PartsView}
use Rattle.node_parts.specs.Sound.{AreSound}
use Rattle.node_parts.specs.Steps.{AsksPart, Fails, HasPart, Hears, IsPartAsked, Leaves, OwesTold, SeesParts, Steps, job_acting, made_of, words_heard}
use Rattle.node_past.specs.declared.setup.Setup.{Setup}
use Rattle.node_steps.specs.Kept.{IsKept}
use Rattle.node_steps.specs.Nodes.{MatchesSetup, IsState, IsStateOfParts, state_of, told_of}
use Rattle.node_past.specs.Owing.{owed_by}
use Rattle.node_steps.specs.Turning.{Stepper}

-- ---- what laws say

abbrev pub FillLaw : Type 0
FillLaw = (s : SetUp) (st : State) (p : PartsView) (key : List ℕ) → AreSound p → AreParts s st p → is_filling p.table key ≡ is_filled s st key

abbrev pub CountLaw : Type 0
CountLaw = (s : SetUp) (h : List Entry) → (states s h).made ≡ length h

-- ---- the lines that are owed after a step

without_none : (call : Call) (by : By) → owed_without call by [] ≡ []
without_none PutFile Script = refl
without_none PutFile (by_job job) = refl
without_none PutFile (Peer peer slot) = refl
without_none _ by = refl

-- what a step's entry owes: its own line, or that which its job owes since it was told so
abbrev pub owed_so : ℕ → EntryKind → Option ToldLine → List OwedLine
owed_so r (Talk (Some job)) told = option_to_list (option_map line_of told)
owed_so r kind told = owed_by r kind

-- where none was owed, there is that
owes_own : (repos : List RepoView) (lines : List ℕ → List (List ℕ)) (clock : ℕ) (ws : List Work) (r : ℕ) (e : Entry) (kind : EntryKind) (told : Option ToldLine)
    → ((job : ℕ) → kind ≡ Talk (Some job) → told_frame (find (λ w. w.number == job) ws) e.taken ≡ option_to_list (option_map line_of told)) → owed_after repos lines clock ws r [] e kind ≡ owed_so r kind told
owes_own repos lines clock ws r e (Gain by size key) told tells = refl
owes_own repos lines clock ws r e (Gone by key) told tells = refl
owes_own repos lines clock ws r e (Log file) told tells = refl
owes_own repos lines clock ws r e (Talk (Some job)) told tells = tells job refl
owes_own repos lines clock ws r e (Talk None) told tells = refl
owes_own repos lines clock ws r e (Fault call by) told tells = without_none call by
owes_own repos lines clock ws r e (Crash to) told tells = refl
owes_own repos lines clock ws r e _ told tells = refl

find_mapped : {X Y : Type 0} (f : X → Y) (p : Y → Bool) (xs : List X) → find p (map f xs) ≡ option_map f (find (λ x. p (f x)) xs)
find_mapped f p [] = refl
find_mapped f p (x ∷ xs) = go (find_mapped f p xs) (p (f x))
  where
    go : find p (map f xs) ≡ option_map f (find (λ y. p (f y)) xs) → (b : Bool) → (if b then Some (f x) else find p (map f xs)) ≡ option_map f (if b then Some x else find (λ y. p (f y)) xs)
    go ih true = refl
    go ih false = ih

-- what the job was told whose talk this is
told_job : (p : PartsView) (d : Done) (ws : List Work) (job : ℕ) → ws ≡ map work_now p.jobs.running → d.kind ≡ Talk (Some job) → OwesTold p d → told_frame (find (λ w. w.number == job) ws) d.taken ≡ option_to_list (option_map line_of d.owes)
told_job p d ws job works talks owes =
    ap (λ (xs : List Work). told_frame (find (λ w. w.number == job) xs) d.taken) works
    ∙ ap (λ (o : Option Work). told_frame o d.taken) (find_mapped work_now (λ w. w.number == job) p.jobs.running)
    ∙ ap (λ (kind : EntryKind). told_frame (option_map work_now (job_acting p kind)) d.taken) (sym talks)
    ∙ sym owes

-- where these make a job's talk, the job owes what it was told
abbrev pub TellsJob : Stepper → PartsView → Done → Type 0
TellsJob step p d = (s : SetUp) (st : State) (k : Look) (m : Effect) (job : ℕ) → step s st k ≡ Some m → m.kind ≡ Talk (Some job) → OwesTold p d

-- ---- the look of a node

abbrev pub look_of : List EndView → SetUp → ℕ → ℕ → EntryKind → ℕ → Bool → (ℕ → Option Word) → Look
look_of links s time count kind part right words = record {
  time = time;
  count = count;
  at_hand = flat_map (λ a. option_to_list (hand_at links a)) (all_ends s);
  room = room_at links;
  fails = failed_in kind;
  part = part;
  right = right;
  words = words;
}

pub look_sees : (links : List EndView) (s : SetUp) (time count : ℕ) (kind : EntryKind) (part : ℕ) (right : Bool) (words : ℕ → Option Word) → SeesEnds links s (look_of links s time count kind part right words)
look_sees links s time count kind part right words = record { at_hand = refl; room = λ a there. refl }

-- ---- what is told

some_known : (o : Option Contents) (b : Bool) → is_some o ≡ true → (c : Contents) × (o ≡ Some c)
some_known None b told = absurd cc
some_known (Some c) b told = (c, refl)

pub told_some : (cs : Option Contents) (qs : Option StoredParts) (c : Contents) → told_of cs qs ≡ Some c → (cs ≡ Some c) × (is_some qs ≡ true)
told_some cs None c told = absurd cc
told_some cs (Some q) c told = (told, refl)

pub told_known : (cs : Option Contents) (qs : Option StoredParts) (c : Contents) → cs ≡ Some c → is_some qs ≡ true → told_of cs qs ≡ Some c
told_known cs None c known there = absurd cc
told_known cs (Some q) c known there = known

-- what is told after a step was told before it
pub told_before : (cs cs' : Option Contents) (qs qs' : Option StoredParts) (c' : Contents) → is_some qs' ≡ is_some qs → (is_some qs ≡ true → is_some cs' ≡ is_some cs) → told_of cs' qs' ≡ Some c' → (c : Contents) × (told_of cs qs ≡ Some c)
told_before cs cs' qs qs' c' parts contents told =
    let now = told_some cs' qs' c' told in
    let there : is_some qs ≡ true = sym parts ∙ now.1 in
    let found = some_known cs true (sym (contents there) ∙ ap (λ (o : Option Contents). is_some o) now.0) in
    (found.0, told_known cs qs found.0 found.1 there)

-- ---- the paths of the running jobs

-- the paths that the running job of this number was given
abbrev pub paths_in : List Task → ℕ → List (List ℕ)
paths_in ts job = unwrap_or (option_and_then paths_of (job_at ts job)) []

-- the set-up with these paths
abbrev own_paths : SetUp → List Task → SetUp
own_paths s ts = record s { paths = paths_in ts }

-- each running job was given those of its number
first_given : (s : SetUp) (t : Task) (ts : List Task) → HadPathsOf (own_paths s (t ∷ ts)) t
first_given s (tasks.Drops j) ts = ap (λ (b : Bool). unwrap_or (option_and_then paths_of (if b then Some (tasks.Drops j) else job_at ts j.worker.number)) []) (sym (eqb_refl j.worker.number))
first_given s (tasks.Transfers w) ts = ap (λ (b : Bool). unwrap_or (option_and_then paths_of (if b then Some (tasks.Transfers w) else job_at ts (work_of w).number)) []) (sym (eqb_refl (work_of w).number))

still_given : (s : SetUp) (t : Task) (ts : List Task) (x : Task) → AreApart t x → HadPathsOf (own_paths s ts) x → HadPathsOf (own_paths s (t ∷ ts)) x
still_given s t ts (tasks.Drops j) other had =
    had ∙ ap (λ (b : Bool). unwrap_or (option_and_then paths_of (if b then Some t else job_at ts j.worker.number)) []) (sym (ne_eqb (number_of t) j.worker.number other.number))
still_given s t ts (tasks.Transfers w) other had =
    had ∙ ap (λ (b : Bool). unwrap_or (option_and_then paths_of (if b then Some t else job_at ts (work_of w).number)) []) (sym (ne_eqb (number_of t) (work_of w).number other.number))

own_given : (s : SetUp) (ts : List Task) → AllApart ts → Each (HadPathsOf (own_paths s ts)) ts
own_given s [] apart = tt
own_given s (t ∷ ts) apart = (
  first_given s t ts,
  Each-both (AreApart t) (HadPathsOf (own_paths s ts)) (HadPathsOf (own_paths s (t ∷ ts))) (still_given s t ts) ts apart.0 (own_given s ts apart.1),
)

fits_own : (setup : Setup) (s : SetUp) (js : List Task) → MatchesSetup setup s → MatchesSetup setup (own_paths s js)
fits_own setup s js fits = record { number = fits.number; ids = fits.ids; offset = fits.offset; version = fits.version; locks = fits.locks }

-- states don't speak of paths, and no more do the parts that they are
states_own : (s : SetUp) (js : List Task) (past : List Entry) → states (own_paths s js) past ≡ states s past
states_own s js [] = refl
states_own s js (e ∷ past) = ap (λ (st : State). state_after s st e) (states_own s js past)

read_own : (s : SetUp) (js : List Task) (st : State) (t : Task) → HasReadOf (given_to (own_paths s js) t) st t → HasReadOf (given_to s t) st t
read_own s js st (tasks.Drops j) has = has
read_own s js st (tasks.Transfers w) has = has

parts_own : (s : SetUp) (js : List Task) (st : State) (p : PartsView) → AreParts (own_paths s js) st p → AreParts s st p
parts_own s js st p are = record {
  place = record { number = are.place.number; ids = are.place.ids };
  holds = are.holds;
  bars = are.bars;
  ends = record { count = are.ends.count; ends = are.ends.ends };
  each = are.each;
  sessions = record { connections = are.sessions.connections; each = λ i x at. let it = are.sessions.each i x at in record { id = it.id; version = it.version; locks = it.locks; session = it.session } };
  closed = are.closed;
  works = record { works = are.works.works; begun = are.works.begun; read = Each-weaker (λ t. HasReadOf (given_to (own_paths s js) t) st t) (λ t. HasReadOf (given_to s t) st t) (read_own s js st) p.jobs.running are.works.read };
  rooms = are.rooms;
  logs = are.logs;
}

-- ---- what a step finds

pub sees_parts : CountLaw → (setup : Setup) (clock : ClockSet) (h : List Entry) (parts : PartsView) (branch : Files) (owed : List OwedLine) (told : Option Contents) (c : Contents) (time number : ℕ) (s : SetUp) (k : Look)
    → IsKept setup clock h parts branch owed told → told ≡ Some c → number ≡ length h + 1 → MatchesSetup setup s → Each (HadPathsOf s) parts.jobs.running → SeesEnds parts.links s k → k.time ≡ time
    → SeesParts parts c clock time number s (state_of s h) k
sees_parts law setup clock h parts branch owed told c time number s k kept is count fits had ends at = record {
  parts = ((kept.state s fits).stands c is).parts_are;
  stored = ((kept.state s fits).stands c is).stored;
  paths = had;
  ticks = kept.clock s fits;
  number = count ∙ sym (ap (λ (n : ℕ). n + 1) (law s (reverse h) ∙ length-reverse h));
  ends = ends;
  time = at;
}

-- ---- a step of these

-- this is so of each state that the history leaves, at each look that finds what belongs to a step
abbrev pub WhereDone : PartsView → Contents → Option StoredParts → Setup → ClockSet → List Entry → ℕ → Option Done → (SetUp → State → Look → Type 0) → Type 0
WhereDone was c known setup clock h time o P =
    (s : SetUp) (k : Look) → MatchesSetup setup s → SeesParts was c clock time (length h + 1) s (state_of s h) k → Fails o k → AsksPart known was o k → Hears was o k → P s (state_of s h) k

-- it is the step there, and the store has the part that it asks for
pub record DoesBy (step : Stepper) (was now : PartsView) (c : Contents) (known : Option StoredParts) (contents : Option Contents) (setup : Setup) (clock : ClockSet) (h : List Entry) (time : ℕ) (o : Option Done) : Type 0 where
  pub part : ForSome o (λ d. HasPart known was d.kind d.taken)
  pub does : WhereDone was c known setup clock h time o (λ s st k. Steps step now contents s st k o)

abbrev pub entry_done : Setup → ℕ → ℕ → Done → Entry
entry_done setup time count d = record { time = time; count = count; repo = Some setup.number; kind = d.kind; taken = d.taken; sent = d.sent; lines = [] }

pub state_more : (s : SetUp) (h : List Entry) (e : Entry) → state_of s (h ++ e ∷ []) ≡ state_after s (state_of s h) e
state_more s h e = ap (states s) (reverse-append h (e ∷ []))

clock_stays : (was : ℕ → ℕ) (time : ℕ) (kind : EntryKind) → ((clock : ℕ) → kind ≡ Crash clock → ⊥) → clock_after was time kind ≡ was
clock_stays was time (Crash clock) none = absurd (none clock refl)
clock_stays was time _ none = refl

module _ (step : Stepper) (setup : Setup) (clock : ClockSet) (h : List Entry) (was now : PartsView) (branch : Files) (cs cs' : Option Contents) (qs qs' : Option StoredParts) (time count : ℕ) (d : Done)
    (fills : FillLaw) (law : CountLaw) (sound : AreSound was) (sound' : AreSound now) (kept : IsKept setup clock h was branch [] (told_of cs qs))
    (leaves : Leaves (length h + 1) was now d) (quiet : IsQuiet d.kind) (tells : TellsJob step was d)
    (does : ForSome (told_of cs qs) (λ c. DoesBy step was now c qs cs' setup clock h time (Some d)))
    (told_parts : is_some qs' ≡ is_some qs) (told_contents : is_some qs ≡ true → is_some cs' ≡ is_some cs) where
  abbrev made_by : Entry
  made_by = entry_done setup time count d

  -- the step, at the node's look
  module _ (s : SetUp) (fits : MatchesSetup setup s) (c : Contents) (told : told_of cs qs ≡ Some c) where
    abbrev by : DoesBy step was now c qs cs' setup clock h time (Some d)
    by = does c told

    abbrev has : HasPart qs was d.kind d.taken
    has = by.part d refl

    -- with the paths of its own jobs
    abbrev mine : SetUp
    mine = own_paths s was.jobs.running

    fits_mine : MatchesSetup setup mine
    fits_mine = fits_own setup s was.jobs.running fits

    abbrev look : Look
    look = look_of was.links mine time count d.kind has.part has.right (words_heard was (Some d))

    steps : Steps step now cs' mine (state_of mine h) look (Some d)
    steps = by.does mine look fits_mine
        (sees_parts law setup clock h was branch [] (told_of cs qs) c time (length h + 1) mine look kept told refl fits_mine (own_given s was.jobs.running sound.acting.apart) (look_sees was.links mine time count d.kind has.part has.right (words_heard was (Some d))) refl)
        (λ x is. ap (λ (y : Done). failed_in y.kind) (some_same d x is)) (λ x is. subst (λ (y : Done). IsPartAsked qs was y.kind y.taken has.part has.right) (some_same d x is) has.asked)
        (λ x is. ap (λ (y : Done). words_heard was (Some y)) (some_same d x is))
      where
        some_same : (x y : Done) → Some x ≡ Some y → x ≡ y
        some_same x y is = cc

    same_entry : entry_of mine.number look (record { kind = d.kind; taken = d.taken; sent = d.sent; lines = []; calls = [] }) ≡ made_by
    same_entry = ap (λ (r : ℕ). record { time = time; count = count; repo = Some r; kind = d.kind; taken = d.taken; sent = d.sent; lines = [] }) fits.number

    owes : (state_after s (state_of s h) made_by).owed ≡ owed_so setup.number d.kind d.owes
    owes =
        let stands = (kept.state s fits).stands c told in
        let st : State = state_of s h in
        let it = map_some (step mine (state_of mine h) look) as_told (made_of d) steps.made in
        ap (λ (os : List OwedLine). owed_after s.repos st.lines (st.wall time) st.works s.number os made_by d.kind) stands.owed_are
        ∙ owes_own s.repos st.lines (st.wall time) st.works s.number made_by d.kind d.owes
        (λ job talks. told_job was d st.works job stands.parts_are.works.works talks (tells mine (state_of mine h) look it.0 job it.1 (ap (λ (m : Effect). m.kind) it.2 ∙ talks)))
        ∙ ap (λ (r : ℕ). owed_so r d.kind d.owes) fits.number

    stands_then : ForSome (told_of cs' qs') (λ c'. IsStateOfParts s now (owed_so setup.number d.kind d.owes) c' (state_after s (state_of s h) made_by))
    stands_then c' is =
        let parts : AreParts s (state_after s (state_of s h) made_by) now = parts_own s was.jobs.running (state_after s (state_of s h) made_by) now
        (subst (λ (st : State). AreParts mine (state_after s st made_by) now) (states_own s was.jobs.running (reverse h)) (subst (λ (e : Entry). AreParts mine (state_after mine (state_of mine h) e) now) same_entry steps.parts)) in
        record {
          parts_are = parts;
          fills = λ key. fills s (state_after s (state_of s h) made_by) now key sound' parts;
          stored = subst (λ (st : State). HasContents c' (state_after s st made_by)) (states_own s was.jobs.running (reverse h))
              (subst (λ (e : Entry). HasContents c' (state_after mine (state_of mine h) e)) same_entry (steps.stored c' (told_some cs' qs' c' is).0));
          owed_are = owes;
        }

  pub state_stepped : (s : SetUp) → MatchesSetup setup s → IsState s now branch (owed_so setup.number d.kind d.owes) (told_of cs' qs') (state_after s (state_of s h) made_by)
  state_stepped s fits = record {
    holds = leaves.holds ∙ ap (λ (x : List _). holds_after x d.kind) (kept.state s fits).holds;
    bars = λ key. leaves.bars key ∙ ap (λ (x : Option ℕ). bar_after key x d.kind) ((kept.state s fits).bars key);
    lines = λ path. (kept.state s fits).lines path ∙ sym (quiet.lines path ((state_of s h).lines path) []);
    stands = λ c' is. let before = told_before cs cs' qs qs' c' told_parts told_contents is in stands_then s fits before.0 before.1 c' is;
  }

  pub kept_stepped : now.jobs.place ≡ was.jobs.place → now.jobs.begun ≡ was.jobs.begun → IsKept setup clock (h ++ made_by ∷ []) now branch (owed_so setup.number d.kind d.owes) (told_of cs' qs')
  kept_stepped place begun = record {
    state = λ s fits. subst (IsState s now branch (owed_so setup.number d.kind d.owes) (told_of cs' qs')) (sym (state_more s h made_by)) (state_stepped s fits);
    clock = λ s fits. ap (λ (st : State). st.clock) (state_more s h made_by) ∙ clock_stays (state_of s h).clock time d.kind quiet.crashes ∙ kept.clock s fits;
    numbered = subst (λ (n : ℕ). All (λ x. x.number < n + 1) now.table.holds) (sym (length-append h (made_by ∷ []))) leaves.numbers;
    place = place ∙ kept.place;
    begun = let few = kept.begun in let longer = length-append h (made_by ∷ []) in omega (arith, few, begun, longer);
  }

-- ---- no step

-- the store may have been asked, and the rest is as it was
pub kept_asked : (step : Stepper) (law : CountLaw) (setup : Setup) (clock : ClockSet) (h : List Entry) (was : PartsView) (branch : Files) (owed : List OwedLine) (cs cs' : Option Contents) (qs qs' : Option StoredParts) (time : ℕ) → AreSound was
    → IsKept setup clock h was branch owed (told_of cs qs) → ForSome (told_of cs qs) (λ c. DoesBy step was was c qs cs' setup clock h time None) → is_some qs' ≡ is_some qs → (is_some qs ≡ true → is_some cs' ≡ is_some cs)
    → IsKept setup clock h was branch owed (told_of cs' qs')
kept_asked step law setup clock h was branch owed cs cs' qs qs' time sound kept does told_parts told_contents = record {
  state = λ s fits.
      let is = kept.state s fits in
      record {
        holds = is.holds;
        bars = is.bars;
        lines = is.lines;
        stands = λ c' known.
            let before = told_before cs cs' qs qs' c' told_parts told_contents known in
            let stands = is.stands before.0 before.1 in
            let js = was.jobs.running in
            let mine : SetUp = own_paths s js in
            let look : Look = look_of was.links mine time 0 (Talk None) 0 false (λ c. None) in
            let steps = (does before.0 before.1).does mine look (fits_own setup s js fits)
            (sees_parts law setup clock h was branch owed (told_of cs qs) before.0 time (length h + 1) mine look kept before.1 refl (fits_own setup s js fits) (own_given s js sound.acting.apart)
            (look_sees was.links mine time 0 (Talk None) 0 false (λ c. None)) refl)
            (λ d is. absurd cc) (λ d is. absurd cc) (λ d is. absurd cc) in
            record {
              parts_are = stands.parts_are;
              fills = stands.fills;
              stored = subst (HasContents c') (states_own s js (reverse h)) (steps.stored c' (told_some cs' qs' c' known).0);
              owed_are = stands.owed_are;
            };
      };
  clock = kept.clock;
  numbered = kept.numbered;
  place = kept.place;
  begun = kept.begun;
}
