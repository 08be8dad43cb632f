-- What a report's fault is to a command.
use Rattle.filter_report.specs.declared.fault.ReportFault.{ReportFault}
use Rattle.filter_report.specs.declared.fault.ReportFault.TheVariants as reports
use Rattle.command_plan.specs.declared.fault.Refusal.TheVariants.{TooLarge}
use Rattle.command_plan.specs.declared.fault.Fault.{Fault}
use Rattle.command_plan.specs.declared.fault.Fault.TheVariants.{Refused, OutOfMemory, Write}

abbrev pub command_fault : ReportFault → Fault
command_fault (reports.TooLarge need limit) = Refused (TooLarge need limit)
command_fault reports.OutOfMemory = OutOfMemory
command_fault reports.Write = Write
