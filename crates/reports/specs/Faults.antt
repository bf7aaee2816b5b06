-- What is told where there is no report.
use Rattle.fields.specs.declared.faults.FaultCode.{FaultCode}
use Rattle.reports.specs.declared.faults.ReportFault.{ReportFault}
use Rattle.reports.specs.declared.faults.ReportFault.TheVariants.{Memory}

abbrev pub report_code : ReportFault → FaultCode
report_code Memory = record { number = 255; layer = 0; line = 0 }
