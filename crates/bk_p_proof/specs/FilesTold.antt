-- What is told of files before any script is read.
use Rattle.bk_sources.specs.declared.fault.FileFault.{FileFault}
use Rattle.bk_sources.specs.declared.fault.FileFault.TheVariants.{Fault as FaultOfFile, Limit as LimitOfFile, Memory as NoMemory}
use Rattle.bk_p_proof.specs.declared.fault.ScriptFault.{ScriptFault}
use Rattle.bk_p_proof.specs.declared.fault.ScriptFault.TheVariants.{Fault, Limit, Memory}

-- the same of proof files
abbrev pub of_files : FileFault → ScriptFault
of_files (FaultOfFile number file place) = Fault number file place
of_files (LimitOfFile number file) = Limit number file
of_files NoMemory = Memory
