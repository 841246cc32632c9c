-- The end of a copy.
use Rattle.std.proofs.Common.{None, sym, ap, subst, ◌∙◌, true}
use Rattle.run_data.specs.declared.entry.EntryKind.TheVariants.{End}
use Rattle.run_data.specs.declared.job.Outcome.{Outcome}
use Rattle.transfer_turns.specs.declared.parcels.Output.{Output}
use Rattle.put_steps.proofs.Keeping.{Did}
use Rattle.put_steps.proofs.Requests.{ends_so}
use Rattle.put_steps.proofs.acting.end_so.Goals as goal

pub returns : goal.returns
returns g c =
    let w = c.args.putting.now in
    let x = g.H.Here.sight c.args.here.now in
    let rows = c.args.table.now in
    let sends = c.in_ok-parting.parting in
    record {
      does = λ k.
          subst (λ (o : Output). Did x None rows k k w w o) (sym (c.ending.ensures ∙ ap (λ (o : Outcome). record { kind = End w.number o; sends = sends; ended = true }) c.outcome_of.ensures))
          (ends_so x rows k w c.args.why sends c.requires.ends c.requires.bare c.in_ok-parting.ensures);
    }
