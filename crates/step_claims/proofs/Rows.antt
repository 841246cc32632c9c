-- Entries that few journals have, made by hand: what each leaves of a row, an end, a slot or a word, as the tables say it, and
-- beside it a neighbour that is refused.
use Rattle.std.specs.Prelude.{◌≡◌, refl, ℕ, Bool, true, false, List, [], ◌∷◌, map, Some, None, codes}
use Rattle.annex_base.specs.declared.kinds.Call.TheVariants as calls
use Rattle.annex_base.specs.declared.kinds.Found.TheVariants as found
use Rattle.annex_base.specs.declared.kinds.Word.TheVariants as words
use Rattle.run_data.specs.declared.entry.Entry.{Entry}
use Rattle.run_data.specs.declared.entry.EntryKind.{EntryKind}
use Rattle.run_data.specs.declared.entry.EntryKind.TheVariants as kinds
use Rattle.run_data.specs.declared.entry.By.TheVariants as by
use Rattle.run_data.specs.declared.entry.FrameText.TheVariants.{Opening, Closing, Line}
use Rattle.run_data.specs.declared.job.JobKind.TheVariants as jobs
use Rattle.run_data.specs.declared.job.Outcome.TheVariants as outcomes
use Rattle.run_data.specs.declared.job.DropRefusal.TheVariants as drops
use Rattle.run_data.specs.declared.job.Cause.TheVariants as causes
use Rattle.run_data.specs.declared.row.Hold.{Hold}
use Rattle.node_model.specs.Rows.{blocks, option_is}
use Rattle.node_model.specs.Slots.{free_slot}
use Rattle.node_model.specs.Ends.{End, frames, may_take, never, sends_at, server_end, takes_at, end_takes}
use Rattle.run_model.specs.Past.{bar, holds, jobs as running, present}
use Rattle.run_model.specs.Drops.{cause_of_found}
use Rattle.run_model.specs.Words.{word_found}
use Rattle.step_claims.specs.Claims.{down, end, entry, job, need, up}

abbrev k : List ℕ
k = codes "WORM-s3--abc"

-- an entry of repository 0 that takes and sends nothing
abbrev by_itself : ℕ → ℕ → EntryKind → Entry
by_itself time count kind = entry time count (Some 0) kind None [] []

-- number, end and whether it is kept, of each hold
abbrev held : List Hold → List (ℕ × ℕ × Bool)
held hs = map (λ h. (h.number, h.end, h.kept)) hs

-- ---- rows

abbrev barred : List Entry
barred = by_itself 0 2 (kinds.Bar 1 (need 1 1) k) ∷ by_itself 0 1 (kinds.Gain by.Script 3 k) ∷ []

bar_stands : bar barred 0 k ≡ Some 1
bar_stands = refl

bar_of_no_other : option_is (bar barred 0 k) 2 ≡ false
bar_of_no_other = refl

bar_at_no_other : bar barred 1 k ≡ None
bar_at_no_other = refl

bar_off_by_its_end : bar (by_itself 0 3 (kinds.End 1 (outcomes.Refused drops.StoreFault)) ∷ barred) 0 k ≡ None
bar_off_by_its_end = refl

bar_stays_by_another_end : bar (by_itself 0 3 (kinds.End 2 (outcomes.Refused drops.StoreFault)) ∷ barred) 0 k ≡ Some 1
bar_stays_by_another_end = refl

bar_off_by_a_crash : bar (by_itself 0 3 (kinds.Crash 0) ∷ barred) 0 k ≡ None
bar_off_by_a_crash = refl

bar_stays_by_a_crash_elsewhere : bar (entry 0 3 (Some 1) (kinds.Crash 0) None [] [] ∷ barred) 0 k ≡ Some 1
bar_stays_by_a_crash_elsewhere = refl

content_stays_by_a_crash : present (by_itself 0 3 (kinds.Crash 0) ∷ barred) 0 k ≡ true
content_stays_by_a_crash = refl

content_goes_by_an_order : present (by_itself 0 3 (kinds.Gone (by.Peer 1 0) k) ∷ barred) 0 k ≡ false
content_goes_by_an_order = refl

-- ---- holds: one of job 1, one of the session of client 1 in slot 0, one of that in slot 2

abbrev three : List Entry
three =
    by_itself 0 4 (kinds.Share 4 600000 (by.Peer 1 2) k) ∷ by_itself 0 3 (kinds.Share 3 600000 (by.Peer 1 0) k) ∷
    by_itself 0 2 (kinds.Share 2 600000 (by.Job 1) k) ∷ by_itself 0 1 (kinds.Gain by.Script 3 k) ∷ []

release_takes_one : held (holds (by_itself 0 5 (kinds.Release 3 k) ∷ three) 0) ≡ (4, 600000, false) ∷ (2, 600000, false) ∷ []
release_takes_one = refl

close_keeps_that_of_its_session : held (holds (by_itself 0 5 (kinds.Close 1 0 false) ∷ three) 0) ≡ (4, 600000, false) ∷ (3, 600000, true) ∷ (2, 600000, false) ∷ []
close_keeps_that_of_its_session = refl

close_of_a_client_keeps_none : held (holds (by_itself 0 5 (kinds.Close 1 0 true) ∷ three) 0) ≡ (4, 600000, false) ∷ (3, 600000, false) ∷ (2, 600000, false) ∷ []
close_of_a_client_keeps_none = refl

failed_release_keeps : held (holds (by_itself 0 5 (kinds.Fault calls.Unhold (by.Peer 1 2)) ∷ three) 0) ≡ (4, 600000, true) ∷ (3, 600000, false) ∷ (2, 600000, false) ∷ []
failed_release_keeps = refl

other_fault_keeps_none : held (holds (by_itself 0 5 (kinds.Fault calls.Has (by.Peer 1 2)) ∷ three) 0) ≡ (4, 600000, false) ∷ (3, 600000, false) ∷ (2, 600000, false) ∷ []
other_fault_keeps_none = refl

end_releases_its_own : held (holds (by_itself 0 5 (kinds.End 1 (outcomes.Refused drops.StoreFault)) ∷ three) 0) ≡ (4, 600000, false) ∷ (3, 600000, false) ∷ []
end_releases_its_own = refl

lost_order_keeps_its_own : held (holds (by_itself 0 5 (kinds.End 1 (outcomes.Refused (drops.Lost true))) ∷ three) 0) ≡ (4, 600000, false) ∷ (3, 600000, false) ∷ (2, 600000, true) ∷ []
lost_order_keeps_its_own = refl

lost_without_order_releases : held (holds (by_itself 0 5 (kinds.End 1 (outcomes.Refused (drops.Lost false))) ∷ three) 0) ≡ (4, 600000, false) ∷ (3, 600000, false) ∷ []
lost_without_order_releases = refl

-- a crash keeps every hold for ten minutes of the clock that it names, expired ones too
crash_keeps_all : held (holds (by_itself 700000 5 (kinds.Crash 50) ∷ three) 0) ≡ (4, 600050, true) ∷ (3, 600050, true) ∷ (2, 600050, true) ∷ []
crash_keeps_all = refl

abbrev open_hold : Hold
open_hold = record { number = 1; key = k; end = 600000; kept = false; owner = by.Job 1 }

abbrev kept_hold : Hold
kept_hold = record open_hold { kept = true }

open_blocks_past_its_end : blocks k 600001 open_hold ≡ true
open_blocks_past_its_end = refl

kept_blocks_below_its_end : blocks k 599999 kept_hold ≡ true
kept_blocks_below_its_end = refl

kept_blocks_no_more_at_its_end : blocks k 600000 kept_hold ≡ false
kept_blocks_no_more_at_its_end = refl

hold_blocks_no_other_key : blocks (codes "WORM-s3--abd") 0 open_hold ≡ false
hold_blocks_no_other_key = refl

-- ---- slots: jobs 1 to 3 run; then the second has ended

abbrev begins : ℕ → EntryKind
begins j = kinds.Begin j (job jobs.Drop k None None)

abbrev begun : List Entry
begun = by_itself 0 3 (begins 3) ∷ by_itself 0 2 (begins 2) ∷ by_itself 0 1 (begins 1) ∷ []

first_slot : free_slot (running [] 0) ≡ 0
first_slot = refl

fourth_slot : free_slot (running begun 0) ≡ 3
fourth_slot = refl

slot_that_is_free_again : free_slot (running (by_itself 0 4 (kinds.End 2 (outcomes.Refused drops.StoreFault)) ∷ begun) 0) ≡ 1
slot_that_is_free_again = refl

all_free_after_a_crash : free_slot (running (by_itself 0 4 (kinds.Crash 0) ∷ begun) 0) ≡ 0
all_free_after_a_crash = refl

-- ---- frames: of a client's end towards repository 1 in slot 2, which was at its third opening

abbrev closed_client : End
closed_client = record { epoch = 3; opened = false; sent = 7 }

abbrev open_client : End
open_client = record { epoch = 3; opened = true; sent = 7 }

opening_is_of_the_next_epoch : frames (end 1 2 true) closed_client (Opening ∷ Line k ∷ Closing ∷ []) ≡ up 1 2 4 1 Opening ∷ up 1 2 4 2 (Line k) ∷ up 1 2 4 3 Closing ∷ []
opening_is_of_the_next_epoch = refl

line_is_of_the_same_epoch : frames (end 1 2 true) open_client (Line k ∷ []) ≡ up 1 2 3 8 (Line k) ∷ []
line_is_of_the_same_epoch = refl

server_answers_in_the_epoch_taken : frames (server_end 1 2) (end_takes never 4 Opening) (Line k ∷ []) ≡ down 1 2 4 1 (Line k) ∷ []
server_answers_in_the_epoch_taken = refl

takes_its_own_epoch : may_take open_client (down 1 2 3 1 (Line k)) ≡ true
takes_its_own_epoch = refl

takes_no_older_epoch : may_take open_client (down 1 2 2 1 (Line k)) ≡ false
takes_no_older_epoch = refl

takes_nothing_once_closed : may_take closed_client (down 1 2 3 1 (Line k)) ≡ false
takes_nothing_once_closed = refl

takes_a_later_opening : may_take closed_client (up 1 2 4 1 Opening) ≡ true
takes_a_later_opening = refl

takes_no_opening_again : may_take closed_client (up 1 2 3 1 Opening) ≡ false
takes_no_opening_again = refl

takes_no_opening_while_open : may_take open_client (up 1 2 4 1 Opening) ≡ false
takes_no_opening_while_open = refl

sent_up_by_the_client : sends_at (end 1 2 true) (up 1 2 3 1 (Line k)) ≡ true
sent_up_by_the_client = refl

not_sent_down_by_it : sends_at (end 1 2 true) (down 1 2 3 1 (Line k)) ≡ false
not_sent_down_by_it = refl

not_in_another_slot : sends_at (end 1 2 true) (up 1 1 3 1 (Line k)) ≡ false
not_in_another_slot = refl

taken_up_by_the_server : takes_at (server_end 1 2) (up 1 2 3 1 (Line k)) ≡ true
taken_up_by_the_server = refl

not_taken_from_another : takes_at (server_end 1 2) (up 0 2 3 1 (Line k)) ≡ false
not_taken_from_another = refl

-- ---- why a look gives nothing, and the words of a target's answer

cause_present : cause_of_found found.Present ≡ None
cause_present = refl

cause_absent : cause_of_found found.Absent ≡ Some causes.Absent
cause_absent = refl

cause_barred : cause_of_found found.Barred ≡ Some causes.Barred
cause_barred = refl

word_absent : word_found found.Absent ≡ Some words.Absent
word_absent = refl

word_barred : word_found found.Barred ≡ Some words.Barred
word_barred = refl

word_held : word_found found.Held ≡ Some words.Held
word_held = refl

word_late : word_found found.Late ≡ Some words.Late
word_late = refl

no_word_of_a_copy : word_found found.Present ≡ None
no_word_of_a_copy = refl
