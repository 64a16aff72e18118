mod RecordedLaws
