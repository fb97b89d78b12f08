-- What the replay program answers to its input.
use Rattle.std.specs.Prelude.{ℕ, cond, List, length, nat_lt}
use Rattle.interface.specs.declared.answers.Refusal.TheVariants.{TraceTooLong}
use Rattle.trace.specs.declared.forms.Fault.{Fault}
use Rattle.report.specs.Reports.{report_on}
use Rattle.report.specs.Texts.{fault_text, report_text}

abbrev pub most_bytes : ℕ
most_bytes = 65536

abbrev pub log_records : ℕ
log_records = 512

abbrev pub too_long : Fault
too_long = record { why = TraceTooLong; line = 0; at = 0 }

-- the report as text; 28 alone where there are too many bytes
abbrev pub program_text : List ℕ → List ℕ
program_text text = cond (nat_lt most_bytes (length text)) (fault_text too_long) (report_text (report_on text log_records))
