-- What goes wrong in a run.
use Rattle.scr_host.specs.declared.fault.Fault.{Fault}
use Rattle.scr_pages.specs.declared.fault.PageFault.{PageFault}

abbrev pub RunFault : Type 0
RunFault = Fault PageFault
