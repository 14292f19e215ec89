mod CheckRowLaws
