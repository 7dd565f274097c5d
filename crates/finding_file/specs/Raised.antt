-- An error of the outside, as a reader or a writer hands it on.
use Rattle.outside.specs.declared.OutErr.{OutErr}
use Rattle.outside.specs.declared.OutErr.TheVariants.{Fault, Memory}
use Rattle.finding_file.specs.declared.errors.ReadErr.{ReadErr}
use Rattle.finding_file.specs.declared.errors.ReadErr.TheVariants.{Fault as ReadFault, Memory as ReadMemory}
use Rattle.finding_file.specs.declared.errors.WriteErr.{WriteErr}
use Rattle.finding_file.specs.declared.errors.WriteErr.TheVariants.{Fault as WriteFault, Memory as WriteMemory}

abbrev pub read_err : OutErr → ReadErr
read_err Fault = ReadFault
read_err Memory = ReadMemory

abbrev pub write_err : OutErr → WriteErr
write_err Fault = WriteFault
write_err Memory = WriteMemory
