-- What a judge of entries carries from one to the next, and the rules by that alone: no past.
use Rattle.std.specs.Prelude.{ℕ, ◌+◌, ◌^◌, Bool, true, false, ◌&&◌, ◌||◌, if◌then◌else◌, ◌==◌, nat_lt, nat_le, List, [], ◌∷◌, ◌++◌, drop, find, map, Option, Some, None}
use Rattle.annex_base.specs.declared.kinds.Word.{Word}
use Rattle.run_data.specs.declared.entry.Entry.{Entry}
use Rattle.run_data.specs.declared.entry.EntryKind.{EntryKind}
use Rattle.run_data.specs.declared.entry.EntryKind.TheVariants.{End}
use Rattle.run_data.specs.declared.entry.FrameView.{FrameView}
use Rattle.run_data.specs.declared.entry.FrameText.{FrameText}
use Rattle.node_model.specs.After.{first_state, state_after}
use Rattle.node_model.specs.Rows.{option_is}
use Rattle.node_model.specs.SetUp.{SetUp}
use Rattle.node_model.specs.Slots.{job_of}
use Rattle.node_model.specs.State.{State}
use Rattle.run_model.specs.Frames.{Way, on_way, sender_of, taker_of, takes, way_of}
use Rattle.run_model.specs.Past.{is_of}
use Rattle.run_model.specs.Run.{repo_number}
use Rattle.run_model.specs.Words.{awaits_of, word_of_kind}
use Rattle.step_judging.specs.Rules.{first_broken, has_row, is_own, is_small, is_time, only_waits}
use Rattle.step_judging.specs.Same.{same_body}

-- ---- what is carried

-- a frame that was sent and not yet taken, with the word that its sender found
pub record WaitingFrame : Type 0 where
  pub body : FrameText
  pub word : Option Word

-- those of a way, the first sent first, and how many were taken before
pub record Flight : Type 0 where
  pub waiting : List WaitingFrame
  pub taken : ℕ

pub record Judge : Type 0 where
  pub newest : Option Entry
  pub states : ℕ → State  -- of each repository
  pub flights : Way → Flight
  pub words : ℕ → ℕ → ℕ → Option Word  -- beside the answer that a repository's job took from another one

abbrev pub first_judge : (ℕ → SetUp) → Judge
first_judge s = record { newest = None; states = λ r. first_state (s r); flights = λ w. record { waiting = []; taken = 0 }; words = λ r j c. None }

-- ---- after an entry

abbrev pub waits_as : EntryKind → FrameView → WaitingFrame
waits_as kind g = record { body = g.body; word = word_of_kind kind }

abbrev pub flight_took : Bool → Flight → Flight
flight_took took was = if took then record { waiting = drop 1 was.waiting; taken = was.taken + 1 } else was

abbrev pub flight_sent : Bool → List WaitingFrame → Flight → Flight
flight_sent sends new was = if sends then record { waiting = was.waiting ++ new; taken = was.taken } else was

abbrev pub flight_after : Way → Flight → Entry → Flight
flight_after w was e = flight_sent (is_of (sender_of w) e) (map (waits_as e.kind) (on_way w e)) (flight_took (is_of (taker_of w) e && takes w e.taken) was)

abbrev pub first_word : List WaitingFrame → Option Word
first_word [] = None
first_word (x ∷ xs) = x.word

abbrev pub word_after : (Way → Flight) → ℕ → ℕ → Option FrameView → Option Word → Option Word
word_after flights r c None was = was
word_after flights r c (Some f) was = if f.peer == c then first_word (flights (way_of r f)).waiting else was

abbrev pub words_after : Judge → Entry → ℕ → ℕ → ℕ → Option Word
words_after was e r j c =
    if is_of r e && option_is (job_of e.kind) j && awaits_of c (find (λ w. w.number == j) (was.states r).works)
    then word_after was.flights r c e.taken (was.words r j c) else was.words r j c

abbrev pub judge_after : (ℕ → SetUp) → Judge → Entry → Judge
judge_after s was e = record {
  newest = Some e;
  states = λ r. if is_of r e then state_after (s r) (was.states r) e else was.states r;
  flights = λ w. flight_after w (was.flights w) e;
  words = words_after was e;
}

-- after these entries, the newest first
abbrev pub judge_of : (ℕ → SetUp) → List Entry → Judge
judge_of s [] = first_judge s
judge_of s (e ∷ past) = judge_after s (judge_of s past) e

-- ---- the rules

abbrev pub follows : Option Entry → Entry → Bool
follows None e = true
follows (Some f) e = nat_lt f.time e.time || (nat_lt f.count e.count || ((f.count == e.count) && nat_lt (repo_number f.repo) (repo_number e.repo)))

abbrev pub time_now : Option Entry → ℕ
time_now None = 0
time_now (Some f) = f.time

abbrev pub is_ordered_by : Option Entry → Entry → Bool
is_ordered_by newest e =
    follows newest e && is_time (time_now newest) e e.kind e.repo && nat_le e.time 1000000000000 && nat_lt e.count (2 ^ 62) && is_small e.kind

abbrev pub is_first : List WaitingFrame → ℕ → FrameView → Bool
is_first [] n f = false
is_first (x ∷ xs) n f = (f.seq == n + 1) && same_body x.body f.body

abbrev pub takes_next : (Way → Flight) → ℕ → Option FrameView → Bool
takes_next flights r None = true
takes_next flights r (Some f) = let was = flights (way_of r f) in is_first was.waiting was.taken f

abbrev pub words_at_end : (ℕ → ℕ → Option Word) → EntryKind → ℕ → Option Word
words_at_end words (End j outcome) c = words j c
words_at_end words kind c = None

abbrev pub breaks_by : (ℕ → SetUp) → Judge → Entry → Option ℕ → Option ℕ
breaks_by s was e None = first_broken ((1, is_ordered_by was.newest e) ∷ (3, only_waits e) ∷ [])
breaks_by s was e (Some r) =
    let st = was.states r in
    first_broken ((1, is_ordered_by was.newest e) ∷ (2, has_row st e) ∷ (3, is_own (s r) st (words_at_end (was.words r) e.kind) e) ∷ (4, takes_next was.flights r e.taken) ∷ [])

-- the first rule that the entry breaks, by what is carried
abbrev pub judged : (ℕ → SetUp) → Judge → Entry → Option ℕ
judged s was e = breaks_by s was e e.repo
