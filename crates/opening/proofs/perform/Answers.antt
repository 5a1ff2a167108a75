use Rattle.std.proofs.Common.{rules}
use Rattle.opening.proofs.perform.Goals as goal
use Rattle.spaces.specs.Spaces.{code_of}
use Rattle.opening.specs.Opening.{performed}

pub returns-in_err-put-in-Put : goal.returns-in_err-put-in-Put
unfolding performed
returns-in_err-put-in-Put g c = let e = c.in_err-put-in-Put.ensures.does (code_of c.args.space) in search rules

pub returns-in_err-read-in-Read : goal.returns-in_err-read-in-Read
unfolding performed
returns-in_err-read-in-Read g c = let e = c.in_err-read-in-Read.ensures.does (code_of c.args.space) in search rules

pub returns-in_err-write-in-Write : goal.returns-in_err-write-in-Write
unfolding performed
returns-in_err-write-in-Write g c = let e = c.in_err-write-in-Write.ensures.does (code_of c.args.space) in search rules

pub returns-in_ok-put-in-Put : goal.returns-in_ok-put-in-Put
unfolding performed
returns-in_ok-put-in-Put g c = let e = c.in_ok-put-in-Put.ensures.does (code_of c.args.space) in search rules

pub returns-in_ok-read-in-Read : goal.returns-in_ok-read-in-Read
unfolding performed
returns-in_ok-read-in-Read g c = let e = c.in_ok-read-in-Read.ensures.does (code_of c.args.space) in search rules

pub returns-in_ok-write-in-Write : goal.returns-in_ok-write-in-Write
unfolding performed
returns-in_ok-write-in-Write g c = let e = c.in_ok-write-in-Write.ensures.does (code_of c.args.space) in search rules
