-- Runs with messages are lawful: by what each repository does by itself, the order of entries and the frames' part.
use Rattle.std.proofs.Common.{ℕ, ◌<◌, List, [], ◌∷◌, sym, ap, ◌∙◌, arith}
use Rattle.drop_proof.specs.declared.rule.Need.{Need}
use Rattle.drop_proof.specs.declared.rule.Side.TheVariants.{Local}
use Rattle.drop_proof.specs.Judging.{is_enough, least_end}
use Rattle.run_data.specs.declared.entry.Entry.{Entry}
use Rattle.std.specs.Prelude.{reverse}
use Rattle.run_data.specs.declared.run.RepoView.{RepoView}
use Rattle.run_data.specs.declared.run.Run.{Run}
use Rattle.run_model.specs.Safety.{IsSafe}
use Rattle.past_facts.proofs.Latest.{lawful_safe}
use Rattle.run_model.specs.Past.{clock}
use Rattle.run_model.specs.Drops.{evidence}
use Rattle.past_facts.specs.Lawful.{IsLawful, FoundBar, FoundLocal, IsLawfulEntry, IsLawfulPast}
use Rattle.past_facts.proofs.Own.{IsMessageRun, MayBar, MayRemove, Meets, MessagePast}
use Rattle.past_facts.proofs.Known.{evidence_known}
use Rattle.past_facts.proofs.OwnFacts.{nobody_vouched, vouch_free}
use Rattle.past_facts.proofs.Evident.{barred, each_end, fresh_items, told_of}
use Rattle.past_facts.proofs.ClockSets.{set_before}
use Rattle.past_facts.proofs.Releasing.{released}
use Rattle.past_facts.proofs.Obeying.{obeyed_order}

put_bar : (repos : List RepoView) (past : List Entry) (e : Entry) (r j : ℕ) (need : Need) (key : List ℕ) → MessagePast repos past → MayBar repos r past e j need key → FoundBar repos past r j e.time key
put_bar repos past e r j need key run b = record { row = b.row; unheld = b.unheld; first = b.first; fresh = λ c. nobody_vouched repos past c r j run b.nothing_asked }

removed : (repos : List RepoView) (past : List Entry) (e : Entry) (r j : ℕ) (key : List ℕ) → MessagePast repos past → MayRemove repos r past e j key → FoundLocal repos past r j e.time key
removed repos past e r j key run b =
    let s = barred repos past r j key run b.barred in
    let known = evidence_known Local repos past r j r s.d.need run in
    record {
      barred = b.barred;
      d = s.d;
      decided_is = s.decided_is;
      key_is = s.key_is;
      enough = ap (is_enough Local s.d.need) known ∙ b.enough s.d s.decided_is;
      in_time = record {
        keys = told_of repos past r j key run b.heard_of;
        ends = fresh_items Local repos past r j r e.time s.d.need (set_before repos past r j run b.one_clock)
            (each_end (λ end. clock repos past r e.time < end) (λ x y le lt. omega (arith, le, lt)) (evidence Local repos past r j r s.d.need)
            (λ first h. b.in_time s.d s.decided_is first (sym (ap least_end known) ∙ h)));
      };
      open' = s.open';
    }

lawful : (repos : List RepoView) (past : List Entry) (e : Entry) → MessagePast repos past → Meets repos past e → IsLawfulEntry repos past e
lawful repos past e run m = record {
  time = m.order;
  repo = λ key by kind. m.somebody by key kind;
  bars = λ r j need key is kind. put_bar repos past e r j need key run ((m.own r is).bar_put j need key kind);
  shares = λ r hold end by key is kind. let s = (m.own r is).share hold end by key kind in (s.row, s.end_is);
  copies = λ r a j v member. vouch_free repos past e r a j v run m member;
  removes = λ r j key is kind. removed repos past e r j key run ((m.own r is).removes j key kind);
  obeys = λ r a slot key is kind. obeyed_order repos past e r a slot key run m is ((m.own r is).obeys a slot key kind);
  drops = λ key kind. let t = m.somebody _ key kind in (m.own t.0 t.1).no_script key kind;
  releases = λ r hold key is kind. released repos past e r hold key run m is ((m.own r is).release hold key kind);
}

pub messages_lawful : (repos : List RepoView) (past : List Entry) → MessagePast repos past → IsLawfulPast repos past
messages_lawful repos [] run = tt
messages_lawful repos (e ∷ past) run = (lawful repos past e run.1 run.0, messages_lawful repos past run.1)

pub message_lawful : (run : Run) → IsMessageRun run → IsLawful run
message_lawful run m = record { steps = messages_lawful run.repos (reverse run.entries) m.steps }

pub message_safe : (run : Run) → IsMessageRun run → IsSafe run
message_safe run m = lawful_safe run (message_lawful run m)
