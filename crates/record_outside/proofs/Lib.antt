mod RecordLaws
mod KeepLaws
