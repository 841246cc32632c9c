-- What a line says is never that memory is wanted.
use Rattle.std.proofs.Common.{◌≡◌, ℕ, zero, suc, ◌+◌, ◌-◌, Bool, true, false, nat_lt, List, [], ◌∷◌, ◌++◌, length, take, Option, Some, None, Result, Ok, Err, ap}
use Rattle.std.specs.Prelude.{◌≢◌, codes, if◌then◌else◌}
use Rattle.std.specs.Option.{option_map}
use Rattle.std.specs.Str.{is_utf8}
use Rattle.std.specs.Str.Lossy.{utf8_valid_len}
use Rattle.annex_base.specs.RepoText.{repo_of}
use Rattle.annex_base.specs.ResultSteps.{◌>>=◌}
use Rattle.annex_base.specs.declared.kinds.Level.{Level}
use Rattle.annex_base.specs.declared.kinds.Call.{Call}
use Rattle.annex_base.proofs.Conditions.{if_either}
use Rattle.annex_base.proofs.Results.{err_is, ok_err}
use Rattle.log_lines.specs.declared.entry.LogKind.{LogKind}
use Rattle.log_lines.specs.declared.entry.LogKind.TheVariants as log_kinds
use Rattle.log_lines.specs.declared.entry.Topic.{Topic}
use Rattle.log_lines.specs.declared.entry.Topic.TheVariants as topics
use Rattle.log_lines.specs.declared.entry.Value.TheVariants as values
use Rattle.run_data.specs.declared.entry.LogFile.{LogFile}
use Rattle.run_data.specs.declared.entry.LogFile.TheVariants.{Location}
use Rattle.run_data.specs.declared.job.Job.{Job}
use Rattle.run_data.specs.declared.job.JobKind.{JobKind}
use Rattle.run_data.specs.declared.job.JobKind.TheVariants as kinds
use Rattle.script_words.specs.Places.{Cursor}
use Rattle.script_words.specs.Words.{next_word, rest_word, behind, first_place}
use Rattle.script_words.specs.Numbers.{number_up_to}
use Rattle.script_words.specs.Fields.{level_of, call_of}
use Rattle.script_words.specs.Contents.{content_of}
use Rattle.script_words.specs.declared.words.NextWord.{NextWord}
use Rattle.script_words.specs.declared.words.NextWord.TheVariants.{NoWord, BadWord, Word}
use Rattle.script_commands.specs.declared.command.NamedKey.{NamedKey}
use Rattle.script_commands.specs.declared.command.Action.TheVariants as actions
use Rattle.script_commands.specs.declared.command.Agendum.{Agendum}
use Rattle.script_commands.specs.declared.command.BlockLine.TheVariants.{Runs, Crashes, Closes, Fails}
use Rattle.script_commands.specs.declared.command.Showing.TheVariants as showings
use Rattle.script_commands.specs.declared.command.Command.{Command}
use Rattle.script_commands.specs.declared.command.Command.TheVariants as commands
use Rattle.script_forms.specs.declared.fault.LineFault.{LineFault}
use Rattle.script_forms.specs.declared.fault.LineFault.TheVariants.{Wrong, Past, NoMemory}
use Rattle.script_forms.specs.declared.fault.Quantity.{Quantity}
use Rattle.script_forms.specs.declared.fault.Quantity.TheVariants.{Content}
use Rattle.script_lang.specs.declared.state.Block.{Block}
use Rattle.script_forms.specs.declared.verb.Verb.{Verb}
use Rattle.script_forms.specs.declared.verb.Verb.TheVariants as verbs
use Rattle.script_forms.specs.declared.verb.BlockVerb.{BlockVerb}
use Rattle.script_forms.specs.declared.verb.BlockVerb.TheVariants as block_verbs
use Rattle.script_forms.specs.declared.verb.JobVerb.{JobVerb}
use Rattle.script_forms.specs.declared.verb.JobVerb.TheVariants as job_verbs
use Rattle.script_forms.specs.declared.verb.LineVerb.{LineVerb}
use Rattle.script_forms.specs.declared.verb.LineVerb.TheVariants.{Par, End, Says}
use Rattle.script_forms.specs.declared.verb.Show.{Show}
use Rattle.script_forms.specs.declared.verb.Show.TheVariants as shows
use Rattle.script_forms.specs.Context.{Context, number_of_repo, number_of_other, id_of_repo, has_path}
use Rattle.script_forms.specs.Forms
use Rattle.script_forms.specs.Forms.{Form}
use Rattle.script_forms.specs.Limits.{first_limit}
use Rattle.script_lang.specs.Script
use Rattle.script_lang.specs.Script.{State}
use Rattle.script_forms.specs.Steps

-- the answer isn't that memory is wanted
pub record WantsNone {A : Type 0} (r : Result A LineFault) : Type 0 where
  pub told : r ≢ Err NoMemory

wrong_is : (A : Type 0) (byte : ℕ) → ◌≡◌ {A = Result A LineFault} (Err (Wrong byte)) (Err NoMemory) → ⊥
wrong_is A byte e = cc

past_is : (A : Type 0) (quantity : Quantity) → ◌≡◌ {A = Result A LineFault} (Err (Past quantity)) (Err NoMemory) → ⊥
past_is A quantity e = cc

said : {A : Type 0} (x : A) → WantsNone (Ok x)
said x = record { told = ok_err NoMemory x }

wrong : {A : Type 0} (byte : ℕ) → WantsNone {A = A} (Err (Wrong byte))
wrong {A} byte = record { told = wrong_is A byte }

past : {A : Type 0} (quantity : Quantity) → WantsNone {A = A} (Err (Past quantity))
past {A} quantity = record { told = past_is A quantity }

-- one step after the other
both : {A B : Type 0} (r : Result A LineFault) (f : A → Result B LineFault) → WantsNone r → ((x : A) → WantsNone (f x)) → WantsNone (r >>= f)
both (Ok x) f first others = others x
both {B} (Err fault) f first others = record { told = λ e. first.told (ap Err (err_is B fault NoMemory e)) }

-- ---- one word

or_wrong_never : {A : Type 0} (byte : ℕ) (o : Option A) → WantsNone (Steps.or_wrong byte o)
or_wrong_never byte None = wrong byte
or_wrong_never byte (Some x) = said x

word_never : (at : Cursor) → WantsNone (Steps.word_at at)
unfolding Steps.word_at
word_never at = from (next_word at.line at.place)
  where
    from : (n : NextWord) → WantsNone (Steps.word_in at n)
    from NoWord = wrong (length at.line)
    from (BadWord byte) = wrong byte
    from (Word w) = said (w, behind at (Word w))

saying_never : {A : Type 0} (says : List ℕ → Option A) (at : Cursor) → WantsNone (Steps.saying_at says at)
saying_never says at =
    both (Steps.word_at at) (λ w. Steps.or_wrong w.0.place (says w.0.text) >>= λ x. Ok (x, w.1)) (word_never at)
    (λ w. both (Steps.or_wrong w.0.place (says w.0.text)) (λ x. Ok (x, w.1)) (or_wrong_never w.0.place (says w.0.text)) (λ x. said (x, w.1)))

end_never : (at : Cursor) → WantsNone (Steps.end_at at)
unfolding Steps.end_at
end_never at = from (next_word at.line at.place)
  where
    from : (n : NextWord) → WantsNone (Steps.end_in at n)
    from NoWord = said tt
    from (BadWord byte) = wrong byte
    from (Word w) = wrong w.place

-- ---- more than a word

location_never : (context : Context) (at : Cursor) → WantsNone (Steps.location_at context at)
unfolding Steps.key_at
location_never context at = both (Steps.key_at context at) (λ k. Ok (Location k.0.key, k.1)) (saying_never (Steps.key_named context) at) (λ k. said (Location k.0.key, k.1))

log_file_by_never : (context : Context) (located : Bool) (at : Cursor) → WantsNone (Steps.log_file_by context located at)
unfolding Steps.file_at
log_file_by_never context false at = saying_never Steps.file_named at
log_file_by_never context true at = location_never context at

other_at_never : (context : Context) (r : ℕ) (at : Cursor) → WantsNone (Steps.other_at context r at)
unfolding Steps.other_at
other_at_never context r at = saying_never (number_of_other context.repos r) at

peer_by_never : (context : Context) (r : ℕ) (named : Bool) (at : Cursor) → WantsNone (Steps.peer_by context r named at)
peer_by_never context r false at = said (None, at)
peer_by_never context r true at = both (Steps.other_at context r at) (λ p. Ok (Some p.0, p.1)) (other_at_never context r at) (λ p. said (Some p.0, p.1))

to_at_never : (context : Context) (r : ℕ) (at : Cursor) → WantsNone (Steps.to_at context r at)
unfolding Steps.to_at
to_at_never context r at = both (Steps.saying_at (Steps.this_word (codes "to")) at) (λ x. Steps.other_at context r x.1) (saying_never (Steps.this_word (codes "to")) at) (λ x. other_at_never context r x.1)

-- ---- the rest of a line

rest_at_never : (at : Cursor) → WantsNone (Steps.rest_at at)
unfolding Steps.rest_at
rest_at_never at = from (rest_word at.line at.place)
  where
    from : (n : NextWord) → WantsNone (Steps.rest_in at n)
    from NoWord = wrong (length at.line)
    from (BadWord byte) = wrong byte
    from (Word w) = said w.text

short_at_never : (at : Cursor) → WantsNone (Steps.short_at at)
unfolding Steps.short_at
short_at_never at = if_either WantsNone (nat_lt (Steps.longest_text + 1) (length at.line - at.place)) (Err (Wrong (at.place + 1))) (Ok tt) (λ long. wrong (at.place + 1)) (λ short. said tt)

or_missing_never : (at : Cursor) (text : List ℕ) → WantsNone (Steps.or_missing at text)
or_missing_never at [] = wrong (length at.line)
or_missing_never at (b ∷ text) = said (b ∷ text)

full_rest_at_never : (at : Cursor) → WantsNone (Steps.full_rest_at at)
unfolding Steps.full_rest_at
full_rest_at_never at = both (Steps.rest_at at) (Steps.or_missing at) (rest_at_never at) (or_missing_never at)

text_at_never : (at : Cursor) → WantsNone (Steps.text_at at)
unfolding Steps.text_at
text_at_never at = both (Steps.short_at at) (λ u. Steps.rest_at at) (short_at_never at) (λ u. rest_at_never at)

glob_at_never : (at : Cursor) → WantsNone (Steps.glob_at at)
unfolding Steps.glob_at
glob_at_never at = both (Steps.short_at at) (λ u. Steps.full_rest_at at) (short_at_never at) (λ u. full_rest_at_never at)

groups_in_never : (n : ℕ) (groups : List (List ℕ)) (at : Cursor) → WantsNone (Steps.groups_in n groups at)
groups_in_never zero groups at = said groups
groups_in_never (suc n) groups at = from (groups_in_never n) (next_word at.line at.place)
  where
    from : ((more : List (List ℕ)) (at : Cursor) → WantsNone (Steps.groups_in n more at)) → (w : NextWord) → WantsNone (Steps.group_by (Steps.groups_in n) groups at w)
    from others NoWord = said groups
    from others (BadWord byte) = wrong byte
    from others (Word w) =
        both (Steps.or_wrong w.place (Steps.group_of w.text)) (λ g. Steps.groups_in n (groups ++ g ∷ []) (behind at (Word w))) (or_wrong_never w.place (Steps.group_of w.text))
        (λ g. others (groups ++ g ∷ []) (behind at (Word w)))

groups_at_never : (at : Cursor) → WantsNone (Steps.groups_at at)
unfolding Steps.groups_at
groups_at_never at = both (Steps.short_at at) (λ u. Steps.groups_in (length at.line + 1) [] at) (short_at_never at) (λ u. groups_in_never (length at.line + 1) [] at)

-- ---- forms

-- no answer of the form is that memory is wanted
pub record NeverWants {A : Type 0} (form : Form A) : Type 0 where
  pub given : (context : Context) (at : Cursor) → WantsNone (form context at)

-- a form that begins with a step
behind_step : {X A : Type 0} (step : Context → Steps.Step X) (next : X → Form A) → ((context : Context) (at : Cursor) → WantsNone (step context at)) → ((x : X) → NeverWants (next x))
    → (context : Context) (at : Cursor) → WantsNone (step context at >>= λ x. next x.0 context x.1)
behind_step step next first others context at = both (step context at) (λ x. next x.0 context x.1) (first context at) (λ x. (others x.0).given context x.1)

-- a form that takes the rest of the line
takes : {X A : Type 0} (step : Cursor → Result X LineFault) (says : X → A) → ((at : Cursor) → WantsNone (step at)) → (context : Context) (at : Cursor) → WantsNone (step at >>= λ x. Ok (says x))
takes step says first context at = both (step at) (λ x. Ok (says x)) (first at) (λ x. said (says x))

repo_never : {A : Type 0} (next : ℕ → Form A) → ((x : ℕ) → NeverWants (next x)) → NeverWants (Forms.repo next)
unfolding Steps.repo_at
repo_never next others = record { given = behind_step Steps.repo_at next (λ context at. saying_never (number_of_repo context.repos) at) others }

other_never : {A : Type 0} (r : ℕ) (next : ℕ → Form A) → ((x : ℕ) → NeverWants (next x)) → NeverWants (Forms.other r next)
other_never r next others = record { given = behind_step (λ context. Steps.other_at context r) next (λ context at. other_at_never context r at) others }

target_never : {A : Type 0} (next : Topic → Form A) → ((x : Topic) → NeverWants (next x)) → NeverWants (Forms.target next)
unfolding Steps.target_at
target_never next others = record {
  given = behind_step Steps.target_at next (λ context at. saying_never (λ name. option_map topics.Repo (id_of_repo context.repos name)) at) others;
}

new_name_never : {A : Type 0} (next : List ℕ → Form A) → ((x : List ℕ) → NeverWants (next x)) → NeverWants (Forms.new_name next)
unfolding Steps.new_name_at
new_name_never next others = record { given = behind_step Steps.new_name_at next (λ context at. saying_never (Steps.new_name context) at) others }

new_id_never : {A : Type 0} (next : List ℕ → Form A) → ((x : List ℕ) → NeverWants (next x)) → NeverWants (Forms.new_id next)
unfolding Steps.new_id_at
new_id_never next others = record { given = behind_step Steps.new_id_at next (λ context at. saying_never (λ word. Steps.unless_known context (repo_of word)) at) others }

number_never : {A : Type 0} (greatest : ℕ) (next : ℕ → Form A) → ((x : ℕ) → NeverWants (next x)) → NeverWants (Forms.number greatest next)
unfolding Steps.number_at
number_never greatest next others = record { given = behind_step (λ context. Steps.number_at greatest) next (λ context at. saying_never (number_up_to greatest) at) others }

level_never : {A : Type 0} (next : Level → Form A) → ((x : Level) → NeverWants (next x)) → NeverWants (Forms.level next)
unfolding Steps.level_at
level_never next others = record { given = behind_step (λ context. Steps.level_at) next (λ context at. saying_never level_of at) others }

call_never : {A : Type 0} (next : Call → Form A) → ((x : Call) → NeverWants (next x)) → NeverWants (Forms.call next)
unfolding Steps.call_at
call_never next others = record { given = behind_step (λ context. Steps.call_at) next (λ context at. saying_never call_of at) others }

path_never : {A : Type 0} (next : List ℕ → Form A) → ((x : List ℕ) → NeverWants (next x)) → NeverWants (Forms.path next)
unfolding Steps.path_at
path_never next others = record { given = behind_step (λ context. Steps.path_at) next (λ context at. saying_never Steps.path_of at) others }

tree_path_never : {A : Type 0} (next : List ℕ → Form A) → ((x : List ℕ) → NeverWants (next x)) → NeverWants (Forms.tree_path next)
unfolding Steps.tree_path_at
tree_path_never next others = record { given = behind_step Steps.tree_path_at next (λ context at. saying_never (λ word. Steps.if_holds (has_path context.tree word) word) at) others }

group_never : {A : Type 0} (next : List ℕ → Form A) → ((x : List ℕ) → NeverWants (next x)) → NeverWants (Forms.group next)
unfolding Steps.group_at
group_never next others = record { given = behind_step (λ context. Steps.group_at) next (λ context at. saying_never Steps.group_of at) others }

key_never : {A : Type 0} (next : NamedKey → Form A) → ((x : NamedKey) → NeverWants (next x)) → NeverWants (Forms.key next)
unfolding Steps.key_at
key_never next others = record { given = behind_step Steps.key_at next (λ context at. saying_never (Steps.key_named context) at) others }

placed_key_never : {A : Type 0} (r : ℕ) (next : NamedKey → Form A) → ((x : NamedKey) → NeverWants (next x)) → NeverWants (Forms.placed_key r next)
unfolding Steps.placed_key_at
placed_key_never r next others = record {
  given = behind_step (λ context. Steps.placed_key_at context r) next (λ context at. saying_never (λ word. Steps.if_placed context r (Steps.key_named context word)) at) others;
}

content_never : {A : Type 0} (next : List ℕ → Form A) → ((x : List ℕ) → NeverWants (next x)) → NeverWants (Forms.content next)
unfolding Steps.content_at
content_never next others = record { given = behind_step (λ context. Steps.content_at) next (λ context at. saying_never content_of at) others }

matching_content_never : {A : Type 0} (key : List ℕ) (next : List ℕ → Form A) → ((x : List ℕ) → NeverWants (next x)) → NeverWants (Forms.matching_content key next)
unfolding Steps.matching_at
matching_content_never key next others = record {
  given = behind_step (λ context. Steps.matching_at key) next (λ context at. saying_never (λ word. Steps.if_matches key (content_of word)) at) others;
}

file_never : {A : Type 0} (next : LogFile → Form A) → ((x : LogFile) → NeverWants (next x)) → NeverWants (Forms.file next)
unfolding Steps.file_at
file_never next others = record { given = behind_step (λ context. Steps.file_at) next (λ context at. saying_never Steps.file_named at) others }

log_file_never : {A : Type 0} (next : LogFile → Form A) → ((x : LogFile) → NeverWants (next x)) → NeverWants (Forms.log_file next)
unfolding Steps.log_file_at
log_file_never next others = record {
  given = behind_step Steps.log_file_at next (λ context at. let x = Steps.comes_next (codes "location") at in log_file_by_never context x.0 x.1) others;
}

maybe_from_never : {A : Type 0} (r : ℕ) (next : Option ℕ → Form A) → ((x : Option ℕ) → NeverWants (next x)) → NeverWants (Forms.maybe_from r next)
unfolding Steps.from_at
maybe_from_never r next others = record {
  given = behind_step (λ context. Steps.from_at context r) next (λ context at. let x = Steps.comes_next (codes "from") at in peer_by_never context r x.0 x.1) others;
}

to_never : {A : Type 0} (r : ℕ) (next : ℕ → Form A) → ((x : ℕ) → NeverWants (next x)) → NeverWants (Forms.to r next)
to_never r next others = record { given = behind_step (λ context. Steps.to_at context r) next (λ context at. to_at_never context r at) others }

way_never : {A : Type 0} (next : JobKind → Form A) → ((x : JobKind) → NeverWants (next x)) → NeverWants (Forms.way next)
unfolding Steps.way_at
way_never next others = record { given = behind_step (λ context. Steps.way_at) next (λ context at. saying_never Steps.way_of at) others }

-- a form that begins with an option
offset_never : {A : Type 0} (next : ℕ → Form A) → ((x : ℕ) → NeverWants (next x)) → NeverWants (Forms.offset next)
offset_never next others = record { given = λ context at. (others (Steps.offset_at at).0).given context (Steps.offset_at at).1 }

version_never : {A : Type 0} (next : ℕ → Form A) → ((x : ℕ) → NeverWants (next x)) → NeverWants (Forms.version next)
version_never next others = record { given = λ context at. (others (Steps.version_at at).0).given context (Steps.version_at at).1 }

locks_never : {A : Type 0} (next : Bool → Form A) → ((x : Bool) → NeverWants (next x)) → NeverWants (Forms.locks next)
locks_never next others = record { given = λ context at. (others (Steps.locks_at at).0).given context (Steps.locks_at at).1 }

clock_never : {A : Type 0} (next : ℕ → Form A) → ((x : ℕ) → NeverWants (next x)) → NeverWants (Forms.clock next)
clock_never next others = record { given = λ context at. (others (Steps.clock_at at).0).given context (Steps.clock_at at).1 }

turns_never : {A : Type 0} (next : ℕ → Form A) → ((x : ℕ) → NeverWants (next x)) → NeverWants (Forms.turns next)
turns_never next others = record { given = λ context at. (others (Steps.turns_at at).0).given context (Steps.turns_at at).1 }

maybe_path_never : {A : Type 0} (next : Option (List ℕ) → Form A) → ((x : Option (List ℕ)) → NeverWants (next x)) → NeverWants (Forms.maybe_path next)
maybe_path_never next others = record { given = λ context at. (others (Steps.maybe_path_at at).0).given context (Steps.maybe_path_at at).1 }

-- a form that ends a line
ends_never : {A : Type 0} (says : A) → NeverWants (Forms.ends says)
ends_never says = record { given = takes Steps.end_at (λ u. says) end_never }

ends_within_never : {A : Type 0} (content : List ℕ) (says : A) → NeverWants (Forms.ends_within content says)
ends_within_never content says = record {
  given = takes (Forms.end_within_at content) (λ u. says) λ at.
      both (Steps.end_at at) (λ u. if Steps.is_large content then Err (Past Content) else Ok tt) (end_never at)
      (λ u. if_either WantsNone (Steps.is_large content) (Err (Past Content)) (Ok tt) (λ large. past Content) (λ small. said tt));
}

text_never : {A : Type 0} (says : List ℕ → A) → NeverWants (Forms.text says)
text_never says = record { given = takes Steps.text_at says text_at_never }

rest_never : {A : Type 0} (says : List ℕ → A) → NeverWants (Forms.rest says)
rest_never says = record { given = takes Steps.rest_at says rest_at_never }

glob_never : {A : Type 0} (says : List ℕ → A) → NeverWants (Forms.glob says)
glob_never says = record { given = takes Steps.glob_at says glob_at_never }

raw_line_never : {A : Type 0} (says : List ℕ → A) → NeverWants (Forms.raw_line says)
raw_line_never says = record { given = takes Steps.full_rest_at says full_rest_at_never }

groups_never : {A : Type 0} (says : List (List ℕ) → A) → NeverWants (Forms.groups says)
groups_never says = record { given = takes Steps.groups_at says groups_at_never }

-- a form behind a test
short_never : {A : Type 0} (next : Form A) → NeverWants next → NeverWants (Forms.short next)
short_never next others = record { given = λ context at. both (Steps.short_at at) (λ u. next context at) (short_at_never at) (λ u. others.given context at) }

first_never : {A : Type 0} (next : Form A) → NeverWants next → NeverWants (Forms.first next)
first_never next others = record { given = λ context at. if_either WantsNone context.closed (Err (Wrong (first_place at.line))) (next context at) (λ closed. wrong (first_place at.line)) (λ going. others.given context at) }

-- ---- jobs

job_row_never : (v : JobVerb) → NeverWants (Forms.job_row v).1
job_row_never job_verbs.Drop = repo_never _ λ r. key_never _ λ k. maybe_from_never r _ λ p. ends_never (r, Forms.a_job kinds.Drop k p)
job_row_never job_verbs.Get = repo_never _ λ r. key_never _ λ k. maybe_from_never r _ λ p. ends_never (r, Forms.a_job kinds.Get k p)
job_row_never job_verbs.Copy = repo_never _ λ r. key_never _ λ k. to_never r _ λ p. ends_never (r, Forms.a_job kinds.Copy k (Some p))
job_row_never job_verbs.Move = repo_never _ λ r. key_never _ λ k. way_never _ λ kind. other_never r _ λ p. ends_never (r, Forms.a_job kind k (Some p))

job_never : {A : Type 0} (says : ℕ → Job → A) → NeverWants (Forms.job says)
job_never says = record {
  given = λ context at.
      both (Forms.job_verb_at at) (λ v. (Forms.job_row v.0).1 context v.1 >>= λ j. Ok (says j.0 j.1)) (saying_never Forms.job_named at)
      (λ v. both ((Forms.job_row v.0).1 context v.1) (λ j. Ok (says j.0 j.1)) ((job_row_never v.0).given context v.1) (λ j. said (says j.0 j.1)));
}

-- ---- lines that may stand in a block

runs_never : (form : Form (ℕ × Job)) → NeverWants form → NeverWants (Forms.runs form)
runs_never form others = record { given = λ context at. both (form context at) (λ j. Ok (Forms.agendum j.0 (Runs j.1))) (others.given context at) (λ j. said (Forms.agendum j.0 (Runs j.1))) }

pub block_row_never : (v : BlockVerb) → NeverWants (Forms.block_row v).1
block_row_never (block_verbs.Job v) = runs_never (Forms.job_row v).1 (job_row_never v)
block_row_never block_verbs.Crash = repo_never _ λ r. clock_never (λ c. Forms.ends (Forms.agendum r (Crashes c))) λ c. ends_never (Forms.agendum r (Crashes c))
block_row_never block_verbs.Close = repo_never _ λ r. other_never r _ λ o. ends_never (Forms.agendum r (Closes o))
block_row_never block_verbs.Fail = repo_never _ λ r. call_never _ λ c. ends_never (Forms.agendum r (Fails c))

stands_alone_never : (form : Form Agendum) → NeverWants form → NeverWants (Forms.stands_alone form)
stands_alone_never form others = record {
  given = λ context at. both (form context at) (λ l. Ok (Forms.outside_block l.repo l.line)) (others.given context at) (λ l. said (Forms.outside_block l.repo l.line));
}

-- ---- lines that show something

show_row_never : (v : Show) → NeverWants (Forms.show_row v).1
show_row_never shows.Presence = key_never _ λ k. ends_never (showings.Presence k)
show_row_never shows.Claims = repo_never _ λ r. key_never _ λ k. ends_never (showings.Claims r k)
show_row_never shows.Location = repo_never _ λ r. key_never _ λ k. ends_never (showings.Location r k)
show_row_never shows.Log = repo_never _ λ r. file_never _ λ f. ends_never (showings.Log r f)
show_row_never shows.Logs = repo_never _ λ r. ends_never (showings.Logs r)
show_row_never shows.Numbers = repo_never _ λ r. maybe_path_never (λ p. Forms.ends (showings.Numbers r p)) λ p. ends_never (showings.Numbers r p)
show_row_never shows.Level = repo_never _ λ r. repo_never _ λ t. ends_never (showings.Level r t)
show_row_never shows.Wants = repo_never _ λ r. repo_never _ λ t. tree_path_never _ λ p. ends_never (showings.Wants r t p)
show_row_never shows.Row = repo_never _ λ r. key_never _ λ k. ends_never (showings.Row r k)
show_row_never shows.Plan = repo_never _ λ r. ends_never (showings.Plan r)
show_row_never shows.Totals = ends_never showings.Totals
show_row_never shows.Journal = ends_never showings.Journal

shown_never : (v : Show) → NeverWants (λ context at. (Forms.show_row v).1 context at >>= λ what. Ok (commands.Shows what))
shown_never v = record { given = λ context at. both ((Forms.show_row v).1 context at) (λ what. Ok (commands.Shows what)) ((show_row_never v).given context at) (λ what. said (commands.Shows what)) }

show_never : NeverWants Forms.show
show_never = record {
  given = behind_step (λ context. Steps.saying_at Forms.show_named) (λ v context at. (Forms.show_row v).1 context at >>= λ what. Ok (commands.Shows what))
      (λ context at. saying_never Forms.show_named at) shown_never;
}

-- ---- all lines

number_setting_never : (kind : LogKind) → NeverWants (Forms.number_setting kind)
number_setting_never kind = repo_never _ λ r. number_never 999999999 _ λ n. ends_never (Forms.sets r kind topics.Whole (values.Number n))

number_by_path_never : (kind : LogKind) → NeverWants (Forms.number_by_path kind)
number_by_path_never kind = repo_never _ λ r. number_never 999999999 _ λ n. glob_never (λ g. Forms.sets r kind (topics.Pattern g) (values.Number n))

text_setting_never : (kind : LogKind) → NeverWants (Forms.text_setting kind)
text_setting_never kind = repo_never _ λ r. target_never _ λ t. text_never (λ x. Forms.sets r kind t (values.Text x))

pub row_never : (v : Verb) → NeverWants (Forms.row v).1
row_never verbs.Repo = first_never _ (new_name_never _ λ name. new_id_never _ λ id. offset_never _ λ o. version_never _ λ v. locks_never _ λ l. ends_never (commands.Repo name id o v l))
row_never verbs.Numcopies = number_setting_never log_kinds.Numcopies
row_never verbs.Mincopies = number_setting_never log_kinds.Mincopies
row_never verbs.NumcopiesFor = number_by_path_never log_kinds.NumcopiesPath
row_never verbs.MincopiesFor = number_by_path_never log_kinds.MincopiesPath
row_never verbs.Trust = repo_never _ λ r. target_never _ λ t. level_never _ λ l. ends_never (Forms.sets r log_kinds.Trust t (values.Level l))
row_never verbs.Describe = text_setting_never log_kinds.Uuid
row_never verbs.Wanted = text_setting_never log_kinds.Preferred
row_never verbs.Required = text_setting_never log_kinds.Required
row_never verbs.Group = repo_never _ λ r. target_never _ λ t. groups_never (λ gs. Forms.sets r log_kinds.Group t (values.Groups gs))
row_never verbs.GroupWanted = repo_never _ λ r. short_never _ (group_never _ λ g. rest_never (λ x. Forms.sets r log_kinds.GroupPreferred (topics.Group g) (values.Text x)))
row_never verbs.Log = repo_never _ λ r. log_file_never _ λ f. raw_line_never (λ l. commands.Does (actions.Raw r f l))
row_never verbs.Have = repo_never _ λ r. key_never _ λ k. matching_content_never k.key _ λ c. ends_within_never c (commands.Does (actions.Have r k.key c))
row_never verbs.Part = repo_never _ λ r. key_never _ λ k. content_never _ λ c. ends_within_never c (commands.Does (actions.SetPart r k.key c))
row_never verbs.Damage = repo_never _ λ r. placed_key_never r _ λ k. content_never _ λ c. ends_within_never c (commands.Damage r k.key c)
row_never verbs.Add = repo_never _ λ r. path_never _ λ p. content_never _ λ c. ends_within_never c _
row_never verbs.File = path_never _ λ p. key_never _ λ k. ends_never (commands.Does (actions.File p k.key))
row_never (verbs.InBlock v) = stands_alone_never (Forms.block_row v).1 (block_row_never v)
row_never verbs.Begin = job_never (λ r j. commands.Does (actions.Begin r j))
row_never verbs.Turn = repo_never _ λ r. turns_never (λ n. Forms.ends (commands.Does (actions.Turns r n))) λ n. ends_never (commands.Does (actions.Turns r n))
row_never verbs.Settle = ends_never (commands.Does actions.Settle)
row_never verbs.Merge = repo_never _ λ r. other_never r _ λ o. ends_never (commands.Does (actions.Merge r o))
row_never verbs.Compact = repo_never _ λ r. ends_never (commands.Does (actions.Compact r))
row_never verbs.Sync = repo_never _ λ r. ends_never (commands.Does (actions.Sync r))
row_never verbs.Wait = number_never 18446744073709551615 _ λ ms. ends_never (commands.Does (actions.Wait ms))
row_never verbs.Show = show_never

-- ---- a line after others

with_command_never : (context : Context) (before : List Command) (command : Command) → WantsNone (Script.with_command context before command)
unfolding Script.with_command
with_command_never context before command = from (first_limit context command)
  where
    from : (o : Option Quantity) → WantsNone (Script.command_unless context before command o)
    from (Some quantity) = past quantity
    from None = said _

outside_never : (context : Context) (before : List Command) (number : ℕ) (v : LineVerb) (at : Cursor) → WantsNone (Script.line_outside context before number v at)
unfolding Script.line_outside
outside_never context before number Par at = both (Steps.end_at at) (λ u. Ok (Script.within_block context before number [])) (end_never at) (λ u. said (Script.within_block context before number []))
outside_never context before number End at = wrong (first_place at.line)
outside_never context before number (Says v) at = both ((Forms.row v).1 context at) (Script.with_command context before) ((row_never v).given context at) (with_command_never context before)

inside_never : (context : Context) (before : List Command) (block : Block) (v : LineVerb) (at : Cursor) → WantsNone (Script.line_inside context before block v at)
unfolding Script.line_inside
inside_never context before block End at = both (Steps.end_at at) (λ u. Script.with_command context before (commands.Par block.lines)) (end_never at) (λ u. with_command_never context before (commands.Par block.lines))
inside_never context before block (Says (verbs.InBlock v)) at =
    both ((Forms.block_row v).1 context at) (λ l. Ok (Script.within_block context before block.number (block.lines ++ l ∷ []))) ((block_row_never v).given context at)
    (λ l. said (Script.within_block context before block.number (block.lines ++ l ∷ [])))
inside_never context before block v at = wrong (first_place at.line)

line_by_never : (context : Context) (before : List Command) (block : Option Block) (number : ℕ) (v : LineVerb) (at : Cursor) → WantsNone (Script.line_by context before block number v at)
line_by_never context before None number v at = outside_never context before number v at
line_by_never context before (Some block) number v at = inside_never context before block v at

words_line_never : (state : State) (number : ℕ) (line : List ℕ) → WantsNone (Script.words_line state number line)
unfolding Script.words_line
words_line_never state number line =
    let start : Cursor = record { line = line; place = 0 } in
    both (Script.line_verb_at start) (λ v. Script.line_by state.context state.commands state.block number v.0 v.1) (saying_never Forms.line_named start)
    (λ v. line_by_never state.context state.commands state.block number v.0 v.1)

comment_at_never : (line : List ℕ) → WantsNone (Script.comment_at line)
unfolding Script.comment_at
comment_at_never line =
    let byte = Script.last_word (take (utf8_valid_len line) line) in
    if_either WantsNone (is_utf8 line) (Ok tt) (Err (Wrong byte)) (λ text. said tt) (λ other. wrong byte)

line_step_never : (state : State) (number : ℕ) (line : List ℕ) → WantsNone (Script.line_step state number line)
unfolding Script.line_step
line_step_never state number line =
    if_either WantsNone (Script.is_skipped line) (Script.comment_at line >>= λ u. Ok state) (Script.words_line state number line)
    (λ skipped. both (Script.comment_at line) (λ u. Ok state) (comment_at_never line) (λ u. said state)) (λ words. words_line_never state number line)

-- what a line says, whatever the lines before it said, is never that memory is wanted
pub never_wants : (state : State) (number : ℕ) (line : List ℕ) → Script.line_step state number line ≢ Err NoMemory
never_wants state number line = (line_step_never state number line).told
