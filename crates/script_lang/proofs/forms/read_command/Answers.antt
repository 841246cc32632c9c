-- What the proof of `forms::read_command` needs beside the tactics.
use Rattle.script_lang.proofs.forms.read_command.Goals as goal

pub returns-in-Settle : goal.returns-in-Settle
returns-in-Settle c = rw c.in-Settle.is (c.settle.ensures c.args.context.now)

pub returns-in-Wait : goal.returns-in-Wait
returns-in-Wait c = rw c.in-Wait.is (c.wait.ensures c.args.context.now)
