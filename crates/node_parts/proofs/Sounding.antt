-- What the parts have of their table and of their ends, after these have changed.
use Rattle.std.proofs.Common.{◌≡◌, ◌≢◌, ℕ, ◌<◌, ◌*◌, Bool, true, false, List, Option, Some, None, Result, Ok, Err, length, refl, sym, ap, subst, ◌∙◌, arith}
use Rattle.std.specs.Prelude.{OnErr, OnOk, is_some, nat_lt, not, ◌==◌, if◌then◌else◌, slice_get}
use Rattle.std.proofs.lemmas.Bool.{true≢false}
use Rattle.std.proofs.lemmas.Bool.Decides.{nat_tests}
use Rattle.run_data.specs.declared.job.Job.{Job}
use Rattle.link_ring.specs.Ends.{EndView}
use Rattle.link_ring.specs.Places.{end_place}
use Rattle.content_lock.specs.Rows.{Rows, bar_at}
use Rattle.p2p_server.specs.declared.session.Session.{Session}
use Rattle.node_model.specs.Ends.{EndName}
use Rattle.node_ends.specs.Ends.{link_at}
use Rattle.node_ends.specs.Joined.{AreCarried, AreJoined, BothPaired, StayPaired, end_with, link_carried}
use Rattle.node_sessions.specs.Sessions.{AreFilled, HaveEnds, OwnAll, end_of, fills_in}
use Rattle.running_jobs.specs.Places.{PlaceView}
use Rattle.running_jobs.specs.Beginning.{Begins}
use Rattle.running_jobs.specs.Running.{AreFilled as JobsFilled, Jobs, OwnAll as JobsOwn, fills_at}
use Rattle.node_crash.proofs.Ends.{stays_there}
use Rattle.node_crash.proofs.Jobs.{LeavesJobs, fills_of_jobs, jobs_keep}
use Rattle.node_parts.specs.Parts.{PartsView}
use Rattle.node_parts.specs.Sound.{AreSound}
use Rattle.node_parts.proofs.Filling.{for_jobs, for_sessions}

-- ---- the ends of the sessions

pub there_still : (was now : List EndView) (xs : List Session) → StayPaired was now → HaveEnds was xs → HaveEnds now xs
there_still was now xs p there = λ i x at. stays_there (link_at was (end_of x)) (link_at now (end_of x)) (p (end_of x)) (there i x at)

pub there_as : (was now : List EndView) (xs : List Session) → ((a : EndName) → is_some (link_at now a) ≡ is_some (link_at was a)) → HaveEnds was xs → HaveEnds now xs
there_as was now xs same there = λ i x at. same (end_of x) ∙ there i x at

-- ---- frames were carried

pub first_there : (a b : Option EndView) → BothPaired a b → is_some a ≡ true
first_there None b p = absurd p
first_there (Some x) b p = refl

pub second_there : (a b : Option EndView) → BothPaired a b → is_some b ≡ true
second_there None b p = absurd p
second_there (Some x) None p = absurd p
second_there (Some x) (Some y) p = refl

carried_some : (a b : Option EndView) → is_some a ≡ true → is_some b ≡ true → is_some (link_carried a b) ≡ true
carried_some None b p q = absurd (true≢false (sym p))
carried_some (Some x) None p q = absurd (true≢false (sym q))
carried_some (Some x) (Some y) p q = refl

low_slot : (links : List EndView) (x : EndName) → is_some (link_at links x) ≡ true → x.slot < 4
low_slot links x is = go (nat_lt x.slot 4) refl is
  where
    go : (b : Bool) → nat_lt x.slot 4 ≡ b → is_some (link_at links x) ≡ true → x.slot < 4
    go true low at = grind (arith, nat_tests)
    go false high at = absurd (true≢false (sym at ∙ ap (λ (b : Bool). is_some (if b then slice_get links (end_place x.peer x.slot x.client) else None)) high))

-- each end that was there is there, where those of the other side are
pub carried_there : (a b : ℕ) (was now other : List EndView) → AreCarried a b was now other
    → ((slot : ℕ) (client : Bool) → slot < 4 → is_some (link_at other (end_with a slot (not client))) ≡ true)
    → (x : EndName) → is_some (link_at was x) ≡ true → is_some (link_at now x) ≡ true
carried_there a b was now other carried sides x is = go (x.peer == b) refl
  where
    go : (q : Bool) → (x.peer == b) ≡ q → is_some (link_at now x) ≡ true
    go true same =
        let peer : x.peer ≡ b = grind (arith, nat_tests) in
        let name : x ≡ end_with b x.slot x.client = (λ i. record { peer = peer i; slot = x.slot; client = x.client }) in
        let low = low_slot was x is in
        ap (λ (y : EndName). is_some (link_at now y)) name
        ∙ (ap is_some (carried.carried x.slot x.client low)
        ∙ carried_some (link_at was (end_with b x.slot x.client)) (link_at other (end_with a x.slot (not x.client))) (ap (λ (y : EndName). is_some (link_at was y)) (sym name) ∙ is) (sides x.slot x.client low))
    go false other_peer =
        let apart : x.peer ≢ b = (λ same. grind (arith, nat_tests)) in
        ap is_some (carried.others x apart) ∙ is

pub joined_first : (a b : ℕ) (xs ys : List EndView) → AreJoined a b xs ys → (slot : ℕ) (client : Bool) → slot < 4 → is_some (link_at ys (end_with a slot (not client))) ≡ true
joined_first a b xs ys joined slot client low = second_there (link_at xs (end_with b slot client)) (link_at ys (end_with a slot (not client))) (joined slot client low)

pub joined_second : (a b : ℕ) (xs ys : List EndView) → AreJoined a b xs ys → (slot : ℕ) (client : Bool) → slot < 4 → is_some (link_at xs (end_with b slot (not client))) ≡ true
joined_second a b xs ys joined slot client low = first_there (link_at xs (end_with b slot (not client))) (link_at ys (end_with a slot (not (not client)))) (joined slot (not client) low)

both_other : (o p : Option EndView) → BothPaired o p → BothPaired p o
both_other None p pair = absurd pair
both_other (Some a) None pair = absurd pair
both_other (Some a) (Some b) pair = record { first = pair.second; second = pair.first }

-- the other repository's are joined with these
pub joined_other : (a b : ℕ) (xs ys : List EndView) → AreJoined a b xs ys → AreJoined b a ys xs
joined_other a b xs ys joined slot true low = both_other (link_at xs (end_with b slot false)) (link_at ys (end_with a slot true)) (joined slot false low)
joined_other a b xs ys joined slot false low = both_other (link_at xs (end_with b slot true)) (link_at ys (end_with a slot false)) (joined slot true low)

-- ---- all of it

pub carried_sound : (p : PartsView) (a b : ℕ) (now other : List EndView) → AreSound p → AreCarried a b p.links now other
    → ((slot : ℕ) (client : Bool) → slot < 4 → is_some (link_at other (end_with a slot (not client))) ≡ true) → AreSound (record { table = p.table; links = now; sessions = p.sessions; jobs = p.jobs })
carried_sound p a b now other sound carried sides = record {
  count = carried.count ∙ sound.count;
  there = λ i x at. carried_there a b p.links now other carried sides (end_of x) (sound.there i x at);
  serving = sound.serving;
  acting = sound.acting;
  filled = sound.filled;
}

-- after a step of the sessions
pub sound_after : (was : PartsView) (table : Rows) (links : List EndView) (xs : List Session) → AreSound was → length links ≡ length was.links → HaveEnds links xs → OwnAll table xs → AreFilled table xs (fills_at was.jobs.running)
    → ((key : List ℕ) → bar_at table key ≡ bar_at was.table key) → LeavesJobs was.table table → AreSound (record { table = table; links = links; sessions = xs; jobs = was.jobs })
sound_after was table links xs sound count there own filled bars others = record {
  count = count ∙ sound.count;
  there = there;
  serving = own;
  acting = jobs_keep was.jobs was.table table bars others (fills_of_jobs table xs was.jobs.running filled) sound.acting;
  filled = filled;
}

-- after frames were carried or dropped
pub sound_ends : (was : PartsView) (links : List EndView) → AreSound was → length links ≡ length was.links → HaveEnds links was.sessions → AreSound (record { table = was.table; links = links; sessions = was.sessions; jobs = was.jobs })
sound_ends was links sound count there = record { count = count ∙ sound.count; there = there; serving = sound.serving; acting = sound.acting; filled = sound.filled }

-- ---- a job was begun, or wasn't

begun_own : {T E : Type 0} (r : Result T E) (jobs jobs' : Jobs) (rows : Rows) → OnOk r ((x : Rows) → JobsOwn jobs x → JobsOwn jobs' x) → OnErr r (jobs' ≡ jobs) → JobsOwn jobs rows → JobsOwn jobs' rows
begun_own (Ok x) jobs jobs' rows ok err own = ok rows own
begun_own (Err e) jobs jobs' rows ok err own = subst (λ (j : Jobs). JobsOwn j rows) (sym err) own

begun_place : {T E : Type 0} (r : Result T E) (jobs jobs' : Jobs) (what : Job) (paths : List (List ℕ)) → OnOk r (Begins jobs what paths jobs') → OnErr r (jobs' ≡ jobs) → jobs'.place ≡ jobs.place
begun_place (Ok x) jobs jobs' what paths ok err = ap (λ (j : Jobs). j.place) ok.jobs
begun_place (Err e) jobs jobs' what paths ok err = ap (λ (j : Jobs). j.place) err

-- what a begin says of the keys that are filled
abbrev pub FilledBegun : Jobs → Jobs → Type 0
FilledBegun jobs jobs' = (rows : Rows) (others : List ℕ → Bool) → JobsFilled rows jobs.running others → JobsFilled rows jobs'.running others

begun_filled : {T E : Type 0} (r : Result T E) (was : PartsView) (jobs : Jobs) → OnOk r (FilledBegun was.jobs jobs) → OnErr r (jobs ≡ was.jobs) → AreFilled was.table was.sessions (fills_at was.jobs.running) → AreFilled was.table was.sessions (fills_at jobs.running)
begun_filled (Ok x) was jobs ok err filled = for_sessions was.table was.sessions jobs.running (ok was.table (fills_in was.sessions) (for_jobs was.table was.sessions was.jobs.running filled))
begun_filled (Err e) was jobs ok err filled = subst (λ (j : Jobs). AreFilled was.table was.sessions (fills_at j.running)) (sym err) filled

pub begun_sound : {T E : Type 0} (r : Result T E) (was : PartsView) (jobs : Jobs) (what : Job) (paths : List (List ℕ)) → OnOk r (Begins was.jobs what paths jobs) → OnOk r ((x : Rows) → JobsOwn was.jobs x → JobsOwn jobs x) → OnOk r (FilledBegun was.jobs jobs) → OnErr r (jobs ≡ was.jobs)
    → AreSound was → AreSound (record { table = was.table; links = was.links; sessions = was.sessions; jobs = jobs })
begun_sound r was jobs what paths ok owns fills err sound = record {
  count = sound.count ∙ sym (ap (λ (p : PlaceView). length p.ids * 8) (begun_place r was.jobs jobs what paths ok err));
  there = sound.there;
  serving = sound.serving;
  acting = begun_own r was.jobs jobs was.table owns err sound.acting;
  filled = begun_filled r was jobs fills err sound.filled;
}
