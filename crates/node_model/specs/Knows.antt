-- What a drop knows: its candidates' offers, its evidence and its outcome (git-annex-numcopies, git-annex-mincopies).
use Rattle.std.specs.Prelude.{ℕ, ◌+◌, Bool, true, false, List, [], find, length, Option, Some, None}
use Rattle.annex_base.specs.declared.kinds.Word.{Word}
use Rattle.annex_base.specs.declared.kinds.Word.TheVariants as words
use Rattle.annex_base.specs.Settings.{Settings}
use Rattle.trust_groups.specs.Numbers.{mincopies_of, numcopies_of}
use Rattle.drop_proof.specs.declared.evidence.Evidence.{Evidence}
use Rattle.drop_proof.specs.declared.evidence.Kind.TheVariants.{Locked, Trusted, Recent}
use Rattle.drop_proof.specs.declared.rule.Need.{Need}
use Rattle.drop_proof.specs.Judging.{is_enough}
use Rattle.run_data.specs.declared.job.Cause.{Cause}
use Rattle.run_data.specs.declared.job.Cause.TheVariants as causes
use Rattle.run_data.specs.declared.job.CandidateCause.{CandidateCause}
use Rattle.run_data.specs.declared.job.Denial.{Denial}
use Rattle.run_data.specs.declared.job.Denial.TheVariants as denials
use Rattle.run_data.specs.declared.job.Outcome.{Outcome}
use Rattle.run_data.specs.declared.job.Outcome.TheVariants.{Dropped, DroppedAbsent}
use Rattle.run_data.specs.declared.job.Proof.{Proof}
use Rattle.run_data.specs.Repos.{id_of}
use Rattle.node_model.specs.Evidence.{Standing, Claimed, Ignored, Asked, Offer, Gives, Fails, candidates, failures, gather, proof_of, reached_candidates, standing_by}
use Rattle.node_model.specs.SetUp.{SetUp}
use Rattle.node_model.specs.Jobs.{Heard, Held, Seen, Lacks, Work, heard_of, side_of, target_of}
use Rattle.node_model.specs.State.{State}
use Rattle.node_model.specs.Clocks.{hold_time}
use Rattle.trust_groups.specs.Wanted.{required}

-- ---- what a drop reads

-- of the set-up: its repository, and how many there are; its clock; of the settings: the numbers of copies, how they see
-- each repository, and the expression by which the target requires the content
pub record Reading : Type 0 where
  pub repo : ℕ
  pub count : ℕ
  pub clock : ℕ → ℕ
  pub need : Need
  pub standing : ℕ → Standing
  pub requires : Option (List ℕ)

-- ---- what a candidate offers, by what the job heard of it

abbrev pub heard_offer : (ℕ → ℕ) → Option Heard → Offer
heard_offer clock (Some (Held since)) = Gives (Locked (clock since + hold_time))
heard_offer clock (Some Seen) = Gives Recent
heard_offer clock _ = Fails

abbrev pub offer_by : (ℕ → ℕ) → Standing → Option Heard → Offer
offer_by clock Claimed heard = Gives Trusted
offer_by clock (Ignored cause) heard = Fails
offer_by clock Asked heard = heard_offer clock heard

abbrev pub is_unasked : Standing → Option Heard → Bool
is_unasked Asked None = true
is_unasked _ _ = false

-- how the logs that the job read see a repository. Only a proof that names it opens this definition: laws hold whatever
-- is read
unfoldable pub standing_of : SetUp → State → Work → ℕ → Standing
standing_of s st w c = standing_by (st.read w.number) w.what.key (id_of s.repos c)

-- the numbers of copies that settings give for a content with these paths. Only a proof that names it opens this definition
unfoldable pub need_by : Settings → List (List ℕ) → Need
need_by settings paths = record { n = numcopies_of settings paths; m = mincopies_of settings paths }

-- the numbers of copies that the job read, for the paths that its key had as it began
abbrev pub need_of : SetUp → State → Work → Need
need_of s st w = need_by (st.read w.number) (s.paths w.number)

-- the expression by which the job's target requires the content, its own copy assumed gone: by the logs that the job read, for
-- these paths
abbrev pub required_of : SetUp → State → Work → Option (List ℕ)
required_of s st w = required (st.read w.number) (id_of s.repos (target_of s.number w)) w.what.key (s.paths w.number)

abbrev pub reading : SetUp → State → Work → Reading
reading s st w = record { repo = s.number; count = length s.repos; clock = st.clock; need = need_of s st w; standing = standing_of s st w; requires = required_of s st w }

-- ---- what it knows, by what it reads

abbrev pub knows_by : Reading → Work → ℕ → Offer
knows_by r w c = offer_by r.clock (r.standing c) (heard_of w c)

abbrev pub asks_by : Reading → Work → ℕ → Bool
asks_by r w c = is_unasked (r.standing c) (heard_of w c)

abbrev pub candidates_by : Reading → Work → List ℕ
candidates_by r w = candidates (side_of w) r.count r.repo (target_of r.repo w)

-- its evidence (how it is gathered is own)
abbrev pub known_by : Reading → Work → List Evidence
known_by r w = gather (side_of w) r.need (knows_by r w) (reached_candidates (asks_by r w) (candidates_by r w)) []

abbrev pub enough_by : Reading → Work → Bool
enough_by r w = is_enough (side_of w) r.need (known_by r w)

abbrev pub next_by : Reading → Work → Option ℕ
next_by r w = find (asks_by r w) (candidates_by r w)

abbrev pub proof_by : Reading → Work → Proof
proof_by r w = proof_of r.count r.need (known_by r w)

-- ---- what the outcome states

-- the word beside a refusal to say that a content is there
abbrev pub cause_of_word : Option Word → Cause
cause_of_word (Some words.Absent) = causes.Absent
cause_of_word (Some words.Barred) = causes.Barred
cause_of_word _ = causes.Fault

abbrev pub cause_heard : Option Word → Option Heard → Cause
cause_heard word (Some (Lacks cause)) = cause
cause_heard word _ = cause_of_word word

abbrev pub cause_by : Option Word → Standing → Option Heard → Cause
cause_by word (Ignored cause) heard = cause
cause_by word _ heard = cause_heard word heard

abbrev pub causes_by : Reading → (ℕ → Option Word) → Work → List CandidateCause
causes_by r words w = failures (knows_by r w) (λ c. cause_by (words c) (r.standing c) (heard_of w c)) (candidates_by r w)

-- the word beside a refused order
abbrev pub denial_of : Option Word → Denial
denial_of (Some words.Late) = denials.Late
denial_of (Some words.Barred) = denials.Barred
denial_of (Some words.Held) = denials.Held
denial_of _ = denials.Fault

-- the word beside an obeyed order
abbrev pub obeyed_outcome : Option Word → Proof → Outcome
obeyed_outcome (Some words.Absent) proof = DroppedAbsent proof
obeyed_outcome _ proof = Dropped proof
