use native.Mathlib.Omega.{arith}
use Rattle.decimal.proofs.Numbers.{digit_room, put-digit, tenth-room, last-room, put_last}
use Rattle.decimal.proofs.+put_number.Goals as goal

pub put_byte-requires : goal.put_byte-requires
put_byte-requires t c = digit_room c.if-x-lt10.true _ _ c.requires

pub returns-then-x-lt10 : goal.returns-then-x-lt10
returns-then-x-lt10 t c = put-digit c.if-x-lt10.true c.digit.ensures c.put_byte.ensures

pub put_number-last-requires : goal.put_number-last-requires
put_number-last-requires t c = (omega (arith, c.decreases, c.if-x-lt10.false), tenth-room c.if-x-lt10.false _ _ c.requires)

pub put_byte-requires-2 : goal.put_byte-requires-2
put_byte-requires-2 t c = last-room c.if-x-lt10.false c.requires c.put_number-last.ensures

pub returns : goal.returns
returns t c = put_last c.if-x-lt10.false c.put_number-last.ensures c.digit-2.ensures c.put_byte-2.ensures
