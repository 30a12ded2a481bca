use Rattle.ck_script.proofs.Prefixes.{ask_prefix}
use Rattle.ck_script.proofs.script_line.AskLineScriptLine.read_prefix.Goals as goal

pub returns-in_ok-key : goal.returns-in_ok-key
returns-in_ok-key g c = ask_prefix g.K.KeyWord.is_key g.K.KeyWord.spelling g.met.K.KeyWord.one_word c.args.text.now c.in_ok-key.n c.if-text-lt4.false c.in_ok-key.key (c.begins.ensures c.if-begins.true) (rw c.split_at.ensures.back at c.in_ok-key.ensures)
