-- What a trace that was read says.
use Rattle.std.specs.Prelude.{vec_items, Option, Vec}
use Rattle.std.specs.declared.alloc.Global.{Global}
use Rattle.trace.specs.declared.forms.TraceTurn.{TraceTurn}
use Rattle.trace.specs.declared.forms.Fault.{Fault}
use Rattle.trace.specs.declared.forms.Trace.{Trace}
use Rattle.trace.specs.Reading.{Rest, Reading}

abbrev pub rest_of : Vec TraceTurn Global × Option Fault → Rest
rest_of x = record { turns = vec_items x.0; fault = x.1 }

abbrev pub reading_of : Trace → Reading
reading_of t = record { first = t.first; turns = vec_items t.turns; fault = t.fault }
