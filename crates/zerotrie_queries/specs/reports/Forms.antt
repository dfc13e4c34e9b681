-- A report as it is printed.
use Rattle.std.specs.Prelude.{ℕ, List, ◌++◌, Option}
use Rattle.zerotrie_queries.specs.reports.Lines.{heading, report_lines}
use Rattle.zerotrie_queries.specs.reports.Json.{report_object}
use Rattle.zerotrie_queries.specs.declared.reports.count.Report.{Report}
use Rattle.zerotrie_queries.specs.declared.reports.ReportForm.{ReportForm}
use Rattle.zerotrie_queries.specs.declared.reports.ReportForm.TheVariants.{Lines, Json}

-- lines, or an object
abbrev pub reported : ReportForm → (file : Option (List ℕ)) → Report → List ℕ
reported Lines file r = heading file ++ report_lines r
reported Json file r = report_object file r
