use Rattle.std.proofs.Common.{◌≡◌, drop}
use Rattle.ecma_messages.specs.Jsx.{looks_like_jsx}
use Rattle.ecma_messages.proofs.jsx.looks_like_jsx.Given as goal

abbrev pub invariant-loop-place : goal.invariant-loop-place
invariant-loop-place l = looks_like_jsx (drop l.place l.text) ≡ looks_like_jsx l.text
