-- Where a remote drop stands after a version.
use Rattle.std.proofs.Common.{◌≡◌, ℕ, Option, Ok, sym, subst}
use Rattle.drop_proof.specs.declared.rule.Need.{Need}
use Rattle.drop_phases.specs.declared.turn.Output.{Output}
use Rattle.drop_phases.specs.Begun.{GoesWith, HasGone}
use Rattle.drop_phases.specs.Worker.{Worker}
use Rattle.drop_phases.specs.Working.{with_version}
use Rattle.remote_requests.specs.Remote.{Says, ShutsRemote, first_request}
use Rattle.remote_requests.proofs.RemoteBegun.{request_gone, shuts_gone}

-- the version that it keeps moves it nowhere
versioned_gone : (w v w' : Worker) (peer version : ℕ) (out : Output) → w' ≡ with_version v peer version → GoesWith peer w v out → GoesWith peer w w' out
versioned_gone w v w' peer version out is gone = λ r other. let h : HasGone r w v out = gone r other in
    subst (λ (u : Worker). HasGone r w u out) (sym is) (record { goes_on = h.goes_on; onward = h.onward; ended = h.ended; last = h.last; slot = h.slot })

pub greet_gone : (need : Need) (w v w' : Worker) (target time peer version : ℕ) (end : Option ℕ) (out : Output) → Says (first_request need w target time peer version end) peer w v out → w' ≡ with_version v peer version → GoesWith peer w w' out
greet_gone need w v w' target time peer version end out s is = versioned_gone w v w' peer version out is (λ r other. request_gone r need w v target time peer version end (Ok out) other s)

pub refused_gone : (w v w' : Worker) (target peer version : ℕ) (out : Output) → ShutsRemote target peer w v out → w' ≡ with_version v peer version → GoesWith peer w w' out
refused_gone w v w' target peer version out s is = versioned_gone w v w' peer version out is (shuts_gone w v target peer (Ok out) s)
