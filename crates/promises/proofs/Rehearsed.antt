-- Two results are equal, for the public functions of the rehearsal too (Determined.antt has the others and says what is meant).
-- Assumes nothing.
use mathlib.Core.Path.{◌≡◌, sym, ◌∙◌}
use mathlib.Core.List.{List}
use Prim.Native.Nat.{ℕ}
use Rattle.script.proofs as script
use Rattle.script.specs.Saying.{Put}
use Rattle.session.proofs as session
use Rattle.promises.proofs.Determined.{ResultOnce, SeenOnce, meet, meet-0, meet-1}

-- ---- contracts that say what was put

put-end : (o o₁ o₂ : List ℕ) (at : ℕ) (bytes : List ℕ) (n k : ℕ) → Put o o₁ at bytes n → Put o o₂ at bytes k → n ≡ k
put-end o o₁ o₂ at bytes n k p q = p.ends ∙ sym q.ends

put-laid : (o o₁ o₂ : List ℕ) (at : ℕ) (bytes : List ℕ) (n k : ℕ) → Put o o₁ at bytes n → Put o o₂ at bytes k → o₁ ≡ o₂
put-laid o o₁ o₂ at bytes n k p q = p.laid ∙ sym q.laid

-- ---- the script

pub record ScriptOnce : Type 0 where
  pub forms-code-of : ResultOnce script.forms.code_of.Kinds.ps script.forms.code_of.Kinds.r script.forms.code_of.Reads.Learnt
  pub line_read : ResultOnce script.forms.Line.read.Kinds.ps script.forms.Line.read.Kinds.r script.forms.Line.read.Reads.Learnt
  pub gather-gather : ResultOnce script.gather.gather.Kinds.ps script.gather.gather.Kinds.r script.gather.gather.Reads.Learnt
  pub gather-gather-line : SeenOnce script.gather.gather.Kinds.ps script.gather.gather.Kinds.r script.gather.gather.Reads.Learnt (λ κs z s. s.1.1.0.now)
  pub laying-begin-args : ResultOnce script.laying.begin_args.Kinds.ps script.laying.begin_args.Kinds.r script.laying.begin_args.Reads.Learnt
  pub laying-lay-write-memory : SeenOnce script.laying.lay_write.Kinds.ps script.laying.lay_write.Kinds.r script.laying.lay_write.Reads.Learnt (λ κs z s. s.0.now)
  pub laying-lay-open-memory : SeenOnce script.laying.lay_open.Kinds.ps script.laying.lay_open.Kinds.r script.laying.lay_open.Reads.Learnt (λ κs z s. s.0.now)
  pub laying-lay-next-memory : SeenOnce script.laying.lay_next.Kinds.ps script.laying.lay_next.Kinds.r script.laying.lay_next.Reads.Learnt (λ κs z s. s.0.now)
  pub printer-byte : SeenOnce script.say.Printer.byte.Kinds.ps script.say.Printer.byte.Kinds.r script.say.Printer.byte.Reads.Learnt (λ κs z s. s.0.now.at)
  pub printer-byte-out : SeenOnce script.say.Printer.byte.Kinds.ps script.say.Printer.byte.Kinds.r script.say.Printer.byte.Reads.Learnt (λ κs z s. s.0.now.out.now)
  pub printer-bytes : SeenOnce script.say.Printer.bytes.Kinds.ps script.say.Printer.bytes.Kinds.r script.say.Printer.bytes.Reads.Learnt (λ κs z s. s.0.now.at)
  pub printer-bytes-out : SeenOnce script.say.Printer.bytes.Kinds.ps script.say.Printer.bytes.Kinds.r script.say.Printer.bytes.Reads.Learnt (λ κs z s. s.0.now.out.now)
  pub printer-field : SeenOnce script.say.Printer.field.Kinds.ps script.say.Printer.field.Kinds.r script.say.Printer.field.Reads.Learnt (λ κs z s. s.0.now.at)
  pub printer-field-out : SeenOnce script.say.Printer.field.Kinds.ps script.say.Printer.field.Kinds.r script.say.Printer.field.Reads.Learnt (λ κs z s. s.0.now.out.now)
  pub printer-numeral : SeenOnce script.say.Printer.numeral.Kinds.ps script.say.Printer.numeral.Kinds.r script.say.Printer.numeral.Reads.Learnt (λ κs z s. s.0.now.at)
  pub printer-numeral-out : SeenOnce script.say.Printer.numeral.Kinds.ps script.say.Printer.numeral.Kinds.r script.say.Printer.numeral.Reads.Learnt (λ κs z s. s.0.now.out.now)
  pub printer-answer : SeenOnce script.say.Printer.answer.Kinds.ps script.say.Printer.answer.Kinds.r script.say.Printer.answer.Reads.Learnt (λ κs z s. s.0.now.at)
  pub printer-answer-out : SeenOnce script.say.Printer.answer.Kinds.ps script.say.Printer.answer.Kinds.r script.say.Printer.answer.Reads.Learnt (λ κs z s. s.0.now.out.now)
  pub printer-events : SeenOnce script.say.Printer.events.Kinds.ps script.say.Printer.events.Kinds.r script.say.Printer.events.Reads.Learnt (λ κs z s. s.0.now.at)
  pub printer-events-out : SeenOnce script.say.Printer.events.Kinds.ps script.say.Printer.events.Kinds.r script.say.Printer.events.Reads.Learnt (λ κs z s. s.0.now.out.now)
  pub say-say-answer : ResultOnce script.say.say_answer.Kinds.ps script.say.say_answer.Kinds.r script.say.say_answer.Reads.Learnt
  pub say-say-answer-out : SeenOnce script.say.say_answer.Kinds.ps script.say.say_answer.Kinds.r script.say.say_answer.Reads.Learnt (λ κs z s. s.0.now)

pub script-once : ScriptOnce
script-once = record {
  forms-code-of = search meet;
  line_read = search meet;
  gather-gather = search meet-0;
  gather-gather-line = search meet-1;
  laying-begin-args = search meet;
  laying-lay-write-memory = search meet;
  laying-lay-open-memory = search meet;
  laying-lay-next-memory = search meet;
  printer-byte = λ κs a z z' s s' p q. put-end _ _ _ _ _ _ _ p.put q.put;
  printer-byte-out = λ κs a z z' s s' p q. put-laid _ _ _ _ _ _ _ p.put q.put;
  printer-bytes = λ κs a z z' s s' p q. put-end _ _ _ _ _ _ _ p.put q.put;
  printer-bytes-out = λ κs a z z' s s' p q. put-laid _ _ _ _ _ _ _ p.put q.put;
  printer-field = λ κs a z z' s s' p q. put-end _ _ _ _ _ _ _ p.put q.put;
  printer-field-out = λ κs a z z' s s' p q. put-laid _ _ _ _ _ _ _ p.put q.put;
  printer-numeral = λ κs a z z' s s' p q. put-end _ _ _ _ _ _ _ p.0.put q.0.put;
  printer-numeral-out = λ κs a z z' s s' p q. put-laid _ _ _ _ _ _ _ p.0.put q.0.put;
  printer-answer = λ κs a z z' s s' p q. put-end _ _ _ _ _ _ _ p.0.put q.0.put;
  printer-answer-out = λ κs a z z' s s' p q. put-laid _ _ _ _ _ _ _ p.0.put q.0.put;
  printer-events = λ κs a z z' s s' p q. put-end _ _ _ _ _ _ _ p.put q.put;
  printer-events-out = λ κs a z z' s s' p q. put-laid _ _ _ _ _ _ _ p.put q.put;
  say-say-answer = λ κs a z z' s s' p q. put-end _ _ _ _ _ z z' p.0 q.0;
  say-say-answer-out = λ κs a z z' s s' p q. put-laid _ _ _ _ _ _ _ p.0 q.0;
}

-- ---- the session

pub record SessionOnce : Type 0 where
  pub buffers-fresh : ResultOnce session.Buffers.fresh.Kinds.ps session.Buffers.fresh.Kinds.r session.Buffers.fresh.Reads.Learnt
  pub fresh : ResultOnce session.Session.fresh.Kinds.ps session.Session.fresh.Kinds.r session.Session.fresh.Reads.Learnt
  pub answer : ResultOnce session.Session.answer.Kinds.ps session.Session.answer.Kinds.r session.Session.answer.Reads.Learnt
  pub answer-session : SeenOnce session.Session.answer.Kinds.ps session.Session.answer.Kinds.r session.Session.answer.Reads.Learnt (λ κs z s. s.0.now)
  pub answer-buffers : SeenOnce session.Session.answer.Kinds.ps session.Session.answer.Kinds.r session.Session.answer.Reads.Learnt (λ κs z s. s.1.1.0.now)
  pub answer-out : SeenOnce session.Session.answer.Kinds.ps session.Session.answer.Kinds.r session.Session.answer.Reads.Learnt (λ κs z s. s.1.1.1.0.now)
  pub «end» : ResultOnce session.Session.end.Kinds.ps session.Session.end.Kinds.r session.Session.end.Reads.Learnt
  pub end-out : SeenOnce session.Session.end.Kinds.ps session.Session.end.Kinds.r session.Session.end.Reads.Learnt (λ κs z s. s.1.0.now)
  pub over : ResultOnce session.Session.over.Kinds.ps session.Session.over.Kinds.r session.Session.over.Reads.Learnt

pub session-once : SessionOnce
session-once = record {
  buffers-fresh = search meet;
  fresh = search meet;
  answer = λ κs a z z' s s' p q. put-end _ _ _ _ _ z z' p.said q.said;
  answer-session = λ κs a z z' s s' p q. p.next ∙ sym q.next;
  answer-buffers = λ κs a z z' s s' p q. p.buffers ∙ sym q.buffers;
  answer-out = λ κs a z z' s s' p q. put-laid _ _ _ _ _ z z' p.said q.said;
  «end» = λ κs a z z' s s' p q. put-end _ _ _ _ _ z z' p q;
  end-out = λ κs a z z' s s' p q. put-laid _ _ _ _ _ z z' p q;
  over = search meet;
}
