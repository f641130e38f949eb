-- Why nothing was built.
use Rattle.pj_port.specs.declared.port.KeepFault.{KeepFault}
use Rattle.pj_port.specs.declared.port.KeepFault.TheVariants as keep_faults
use Rattle.pj_build.specs.declared.fault.BuildFault.{BuildFault}
use Rattle.pj_build.specs.declared.fault.BuildFault.TheVariants as faults

-- the fault of a build whose port kept nothing, by why it didn't
abbrev pub fault_of : KeepFault → BuildFault
fault_of keep_faults.Failed = faults.StoreFault
fault_of keep_faults.NoMemory = faults.NoMemory
